-- Marks taken off, role by role and from the last step back.
use Rattle.std.proofs.Common.{◌≡◌, ◌≤◌, ◌+◌, ℕ, Bool, true, false, List, [], ◌∷◌, ◌++◌, length, map, Option, Some, None, refl, sym, ap, ◌∙◌, arith, ⊎_elim, inl, eq-eqb, append_assoc, length-append}
use mathlib.Core.Path.{ap₂}
use Rattle.std.specs.Prelude.{◌==◌, nat_lt, if◌then◌else◌}
use Rattle.std.specs.List.{AllByRecursion}
use Rattle.std.proofs.lemmas.Bool.{cases_Bool, cond-true, cond-false, eqb-true, lt-ltb, le-ltb, or_left, or_right, or_parts, false_from_ne_true, both_ways}
use Rattle.std.proofs.lemmas.List.{map-append}
use Rattle.mps_history.specs.Dependence.{is_matched}
use Rattle.mps_arena.specs.Keys.{has, AreDistinct, last_key}
use Rattle.mps_arena.specs.KeyedSteps.{KeyedStep, steps, keys_of, any_step, of_role, keyed_at, with_mark, AreSound, IsSmall}
use Rattle.mps_arena.specs.Neighbours.{prev_of_role_in}
use Rattle.mps_arena.proofs.KeyLists.{has-append_right}
use Rattle.mps_arena.proofs.Chains.{keys_without, keys_around}
use Rattle.mps_links.specs.Marks.{AreMarksClosed, unmarked}
use Rattle.mps_links.specs.Private.RoleMarks.{unmarked_of, AreLastMarked}
use Rattle.mps_links.proofs.StepKeys.{in_middle, none_passes}
use Rattle.mps_links.proofs.Present.{at_middle}
use Rattle.mps_links.proofs.Firsts.{keyed_in, rising_behind}
use Rattle.mps_links.proofs.Lasts.{IsLast, last_is, nothing_last}
use Rattle.mps_links.proofs.Links.{prev_is}
use Rattle.mps_links.proofs.Marked.{marked_here}
use Rattle.mps_links.proofs.Newest.{below_next}

-- the keyed step with that mark
abbrev pub marked_as : Bool → KeyedStep → KeyedStep
marked_as m e = record e { marked = m }

others_kept : (k : ℕ) (m : Bool) (b : List KeyedStep) → has k (keys_of any_step b) ≡ false → map (with_mark k m) b ≡ b
others_kept k m [] e = refl
others_kept k m (y ∷ b) e =
    let p = or_parts (y.key == k) (has k (keys_of any_step b)) e in
    ap₂ (λ (z : KeyedStep) (l : List KeyedStep). z ∷ l) (ap (λ v. marked_as v y) (cond-false (y.key == k) m y.marked p.0)) (others_kept k m b p.1)

-- a mark written in the middle
pub mark_middle : (m : Bool) (a b : List KeyedStep) (x : KeyedStep) → AreDistinct (keys_of any_step (a ++ x ∷ b)) → map (with_mark x.key m) (a ++ x ∷ b) ≡ a ++ marked_as m x ∷ b
mark_middle m [] b x d = grind (arith, cond-true, eq-eqb, others_kept)
mark_middle m (y ∷ a) b x d = grind (arith, false_from_ne_true (y.key == x.key) (grind (arith, both_ways, keys_around, has-append_right, or_left, eq-eqb, eqb-true)), mark_middle m a b x d.1)

module _ (p : ℕ) where
  abbrev off : List KeyedStep → List KeyedStep
  off es = map (unmarked_of p) es

  other_role : (y : KeyedStep) → (y.step.role == p) ≡ false → unmarked_of p y ≡ y
  other_role y f = ap (λ v. marked_as v y) (cond-false (y.step.role == p) false y.marked f)

  own_role : (y : KeyedStep) → (y.step.role == p) ≡ true → unmarked_of p y ≡ marked_as false y
  own_role y t = ap (λ v. marked_as v y) (cond-true (y.step.role == p) false y.marked t)

  none_of_role : (b : List KeyedStep) → keys_of (of_role p) b ≡ [] → off b ≡ b
  none_of_role [] e = refl
  none_of_role (y ∷ b) e =
      let f : (y.step.role == p) ≡ false = none_passes (of_role p) (y ∷ b) y.step e (inl refl) in
      ap₂ (λ (z : KeyedStep) (l : List KeyedStep). z ∷ l) (other_role y f) (none_of_role b (sym (keys_without (of_role p) y b f) ∙ e))

  -- before an unmarked step of the role none is marked
  none_before : (a b : List KeyedStep) (x : KeyedStep) → AreLastMarked p (a ++ x ∷ b) → x.step.role ≡ p → x.marked ≡ false → off a ≡ a
  none_before [] b x h own m = refl
  none_before (y ∷ a) b x h own m =
      let rest = none_before a b x h.1 own m in
      ⊎_elim
      (λ (t : (y.step.role == p) ≡ true).
      ⊎_elim
      (λ (u : y.marked ≡ true).
      absurd (both_ways x.marked m (at_middle (λ f. f.step.role ≡ p → f.marked ≡ true) a b x (h.0 (eqb-true y.step.role p t) u) own)))
      (λ (v : y.marked ≡ false). ap₂ (λ (z : KeyedStep) (l : List KeyedStep). z ∷ l) (own_role y t ∙ ap (λ k. marked_as k y) (sym v)) rest)
      (cases_Bool y.marked))
      (λ (f : (y.step.role == p) ≡ false). ap₂ (λ (z : KeyedStep) (l : List KeyedStep). z ∷ l) (other_role y f) rest)
      (cases_Bool (y.step.role == p))

  -- the marks of the role are off from some place on, and the key is that of its last step before
  pub record IsWalk (es now : List KeyedStep) (at : Option ℕ) (turns : ℕ) : Type 0 where
    pub front : List KeyedStep
    pub rest : List KeyedStep
    pub parts : es ≡ front ++ rest
    pub left : now ≡ front ++ off rest
    pub key : at ≡ last_key None (keys_of (of_role p) front)
    pub count : turns ≤ length rest

  module _ (es now : List KeyedStep) (at : Option ℕ) (turns : ℕ) (w : IsWalk es now at turns) where
    ended : off w.front ≡ w.front → now ≡ off es
    ended e = w.left ∙ ap (λ l. l ++ off w.rest) (sym e) ∙ sym (ap off w.parts ∙ map-append (unmarked_of p) w.front w.rest)

    pub ends_at_first : at ≡ None → now ≡ off es
    ends_at_first e = ended (none_of_role w.front (nothing_last (keys_of (of_role p) w.front) (sym w.key ∙ e)))

    pub ends_by_count : length es ≤ turns → now ≡ off es
    ends_by_count long =
        ended (empty w.front (λ x l e. omega (arith, long, w.count, ap length w.parts, length-append w.front w.rest, ap length e)))
      where
        empty : (l : List KeyedStep) → ((x : KeyedStep) (m : List KeyedStep) → l ≡ x ∷ m → ⊥) → off l ≡ l
        empty [] h = refl
        empty (x ∷ m) h = absurd (h x m refl)

    module _ (k : ℕ) (is : at ≡ Some k) where
      pub last : IsLast (of_role p) w.front k
      last = last_is (of_role p) w.front k (sym w.key ∙ is)

      abbrev x : KeyedStep
      x = last.keyed

      now_is : now ≡ last.before ++ x ∷ (last.behind ++ off w.rest)
      now_is = w.left ∙ ap (λ l. l ++ off w.rest) last.parts ∙ append_assoc last.before (x ∷ last.behind) (off w.rest)

      es_is : es ≡ last.before ++ x ∷ (last.behind ++ w.rest)
      es_is = w.parts ∙ ap (λ l. l ++ w.rest) last.parts ∙ append_assoc last.before (x ∷ last.behind) w.rest

      own : x.step.role ≡ p
      own = eqb-true x.step.role p last.passes

      pub walk_at : AreSound now → keyed_at k now ≡ Some x
      walk_at sound = grind (arith, keyed_in, append_assoc)

      pub ends_unmarked : AreLastMarked p es → x.marked ≡ false → now ≡ off es
      ends_unmarked h m = grind (arith, none_before, append_assoc, own, ended, map-append, own_role, none_of_role)

      pub walk_goes : AreSound now → IsWalk es (map (with_mark k false) now) (prev_of_role_in now k) (turns + 1)
      walk_goes sound = grind (arith, es_is, now_is, mark_middle, own_role, none_of_role, map-append, prev_is, own, length-append)

-- the marks of the roles below r are off
abbrev pub unmarked_below : ℕ → KeyedStep → KeyedStep
unmarked_below r e = marked_as (if nat_lt e.step.role r then false else e.marked) e

pub below_none : (es : List KeyedStep) → map (unmarked_below 0) es ≡ es
below_none [] = refl
below_none (y ∷ es) = grind (arith, cond-false (nat_lt y.step.role 0) false y.marked (le-ltb y.step.role 0 (omega arith)), below_none es)

pub below_more : (r : ℕ) (es : List KeyedStep) → map (unmarked_of r) (map (unmarked_below r) es) ≡ map (unmarked_below (r + 1)) es
below_more r [] = refl
below_more r (y ∷ es) = grind (arith, below_next, or_right, cases_Bool, below_more r es)

pub below_all : (es : List KeyedStep) → AllByRecursion (λ e. IsSmall e.step) es → map (unmarked_below 8) es ≡ map unmarked es
below_all [] h = refl
below_all (y ∷ es) h = cc (cond-true (nat_lt y.step.role 8) false y.marked (lt-ltb y.step.role 8 h.0.0), below_all es h.1)

module _ (es : List KeyedStep) (sound : AreSound es) (closed : AreMarksClosed es) (r : ℕ) where
  own_mark : (y : KeyedStep) → y.step.role ≡ r → (unmarked_below r y).marked ≡ y.marked
  own_mark y e = cond-false (nat_lt y.step.role r) false y.marked (le-ltb y.step.role r (omega arith))

  behind_marked : (a b : List KeyedStep) (x : KeyedStep) → es ≡ a ++ x ∷ b → x.step.role ≡ r → x.marked ≡ true → (c e : List KeyedStep) → b ≡ c ++ e → AllByRecursion (λ f. f.step.role ≡ r → f.marked ≡ true) (map (unmarked_below r) e)
  behind_marked a b x is same_role m c [] parts = tt
  behind_marked a b x is same_role m c (z ∷ e) parts = (
    λ same.
        let whole : es ≡ (a ++ x ∷ c) ++ z ∷ e = is ∙ ap (λ l. a ++ x ∷ l) parts ∙ sym (append_assoc a (x ∷ c) (z ∷ e)) in
        grind (arith, rising_behind es sound.distinct sound.rising a b x z.step is (in_middle b c e z parts), or_left (x.step.role == z.step.role) (is_matched (steps es) x.step z.step) (eq-eqb x.step.role z.step.role (same_role ∙ sym same)), own_mark z same, marked_here es (a ++ x ∷ c) e z sound.rising whole, in_middle es (a ++ x ∷ c) e z whole, in_middle es a b x is, marked_here es a b x sound.rising is),
    behind_marked a b x is same_role m (c ++ z ∷ []) e (parts ∙ sym (append_assoc c (z ∷ []) e)),
  )

  last_from : (a b : List KeyedStep) → es ≡ a ++ b → AreLastMarked r (map (unmarked_below r) b)
  last_from a [] e = tt
  last_from a (y ∷ b) e =
      (λ own m. behind_marked a b y e own (sym (own_mark y own) ∙ m) [] b refl, last_from (a ++ y ∷ []) b (e ∙ sym (append_assoc a (y ∷ []) b)))

  -- of each role the marked steps are the last ones
  pub last_marked_below : AreLastMarked r (map (unmarked_below r) es)
  last_marked_below = last_from [] es refl
