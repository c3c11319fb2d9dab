-- How the walk by which steps are marked begins and ends.
use Rattle.std.proofs.Common.{◌≡◌, ◌<◌, ◌≤◌, ℕ, zero, suc, Bool, true, false, List, [], ◌∷◌, length, map, replicate, Option, Some, None, refl, sym, ap, ◌∙◌, subst, arith, ⊎_elim, inl, inr, eq-eqb}
use mathlib.Core.Path.{ap₂}
use Rattle.std.specs.Prelude.{◌==◌, ◌&&◌, ◌||◌, nat_lt, slice_index_or}
use Rattle.std.proofs.lemmas.Bool.{cases_Bool, eqb-true, eqb-false, ltb-true, and_left, and_right, and_parts, and_from, or_cases, or_from, or_left, or_right, false≢true}
use Rattle.std.proofs.lemmas.List.{length-map}
use Rattle.mps_base.specs.declared.action.Step.{Step}
use Rattle.mps_history.specs.Steps.{IsIn, IsRising, within}
use Rattle.mps_history.specs.Dependence.{is_matched, consequences, IsClosed}
use Rattle.mps_history.proofs.Order.{from_members}
use Rattle.mps_history.proofs.Reaching.{consequences_closed, consequences_self}
use Rattle.mps_history.proofs.Removal.{filter-same}
use Rattle.mps_history.proofs.Least.{consequences_within}
use Rattle.mps_arena.specs.KeyedSteps.{KeyedStep, steps, keyed_at, AreSound}
use Rattle.mps_arena.proofs.Numbers.{find_split}
use Rattle.mps_links.specs.Marks.{marked_keys, is_marked, AreMarksClosed, marked_by}
use Rattle.mps_links.specs.Private.Pending.{mark_at, AreFirstsMarked}
use Rattle.mps_links.proofs.StepKeys.{in_middle}
use Rattle.mps_links.proofs.Marked.{marked_without}
use Rattle.mps_links.proofs.MarkedLinks.{steps_kept, mark_is}
use Rattle.mps_links.proofs.Counting.{lacks_one}
use Rattle.mps_links.proofs.Unmarking.{marked_as}
use Rattle.mps_links.proofs.Spreading.{IsAhead, IsRoot, IsSpread}

same_Bool : (a b : Bool) → (a ≡ true → b ≡ true) → (b ≡ true → a ≡ true) → a ≡ b
same_Bool a b forth back = grind (arith, cases_Bool a, cases_Bool b)

keyed_there : (es : List KeyedStep) (k : ℕ) (y : KeyedStep) → keyed_at k es ≡ Some y → IsIn y.step (steps es)
keyed_there es k y found = let w = (find_split (λ e. e.key == k) es y found).1 in in_middle es w.0 w.1 y w.2

abbrev nobody : ℕ → Bool
nobody m = false

none_marked : (es : List KeyedStep) → marked_keys es ≡ [] → es ≡ map (marked_by nobody) es
none_marked [] e = refl
none_marked (x ∷ es) e =
    ⊎_elim (λ (t : x.marked ≡ true). absurd cc)
    (λ (f : x.marked ≡ false). ap₂ (λ (z : KeyedStep) (l : List KeyedStep). z ∷ l) (ap (λ m. marked_as m x) f) (none_marked es (sym (marked_without x es f) ∙ e)))
    (cases_Bool x.marked)

none_counted : (l : List Step) → length (within l nobody) ≡ 0
none_counted [] = refl
none_counted (t ∷ l) = none_counted l

nones : (n k : ℕ) → slice_index_or {A = Option ℕ} (replicate n None) k None ≡ None
nones zero k = refl
nones (suc n) zero = refl
nones (suc n) (suc k) = nones n k

-- no step is marked, and the walk begins at the step of number n
pub starts : (es : List KeyedStep) (n : ℕ) (y : KeyedStep) → marked_keys es ≡ [] → keyed_at y.key es ≡ Some y → y.step.id ≡ n → IsSpread es es n (Some y.key) (replicate 8 None) 0
starts es n y none found number = record {
  set = nobody;
  marks = none_marked es none;
  counted = sym (none_counted (steps es));
  size = refl;
  root = inr (record { keyed = y; at = refl; found = found; number = number });
  inside = λ t i on. absurd (false≢true on);
  walking = λ k is.
      let same : y.key ≡ k = cc in (
        record { keyed = y; found = ap (λ j. keyed_at j es) (sym same) ∙ found; reached = ap (consequences (steps es) n) number ∙ consequences_self (steps es) n },
        refl,
      );
  waiting = λ p k is. let no : None ≡ Some k = sym (nones 8 p) ∙ is in absurd cc;
  chained = λ u t i j on. absurd (false≢true on);
  matched = λ u t i j on. absurd (false≢true on);
}

module _ (es now : List KeyedStep) (n : ℕ) (walk : Option ℕ) (firsts : List (Option ℕ)) (count : ℕ) (w : IsSpread es now n walk firsts count) (sound : AreSound es) where
  abbrev h : List Step
  h = steps es

  -- the marked steps are those that they have to be
  abbrev pub AreAll : Type 0
  AreAll = (t : Step) → IsIn t h → w.set t.id ≡ consequences h n t.id

  module _ (ended : walk ≡ None) (marked : AreFirstsMarked now firsts) where
    not_ahead : (u t : Step) → IsAhead es walk u t → ⊥
    not_ahead u t q = let no : None ≡ Some q.keyed.key = sym ended ∙ q.at in absurd cc

    rooted : w.set n ≡ true
    rooted = ⊎_elim (λ (e : w.set n ≡ true). e) (λ (q : IsRoot es walk n). let no : None ≡ Some q.keyed.key = sym ended ∙ q.at in absurd cc) w.root

    chain : (u t : Step) → IsIn u h → IsIn t h → w.set u.id ≡ true → u.id < t.id → u.role ≡ t.role → w.set t.id ≡ true
    chain u t i j on less role = ⊎_elim (λ (e : w.set t.id ≡ true). e) (λ (q : IsAhead es walk u t). absurd (not_ahead u t q)) (w.chained u t i j on less role)

    closed : IsClosed h w.set
    closed t s j i on depends =
        let both = and_parts (nat_lt s.id t.id) (s.role == t.role || is_matched h s t) depends in
        let less = ltb-true s.id t.id both.0 in
        ⊎_elim (λ (e : (s.role == t.role) ≡ true). chain s t i j on less (eqb-true s.role t.role e))
        (λ (e : is_matched h s t ≡ true).
        let q = w.matched s t i j on less e in
        let first : Some (w.set q.keyed.step.id) ≡ Some true =
        sym (mark_is w.set es q.keyed.key q.keyed q.found) ∙ ap (λ l. mark_at l q.keyed.key) (sym w.marks) ∙ marked t.role q.keyed.key q.at in
        let first_on : w.set q.keyed.step.id ≡ true = cc in
        ⊎_elim (λ (same : (q.keyed.step.id == t.id) ≡ true). ap w.set (sym (eqb-true q.keyed.step.id t.id same)) ∙ first_on)
        (λ (other : (q.keyed.step.id == t.id) ≡ false).
        let apart = eqb-false q.keyed.step.id t.id other in
        chain q.keyed.step t (keyed_there es q.keyed.key q.keyed q.found) j first_on (omega (arith, apart, q.upto)) q.role)
        (cases_Bool (q.keyed.step.id == t.id)))
        (or_cases (s.role == t.role) (is_matched h s t) both.1)

    pub ends : AreAll
    ends t i = same_Bool (w.set t.id) (consequences h n t.id) (w.inside t i) (consequences_within h w.set closed n rooted t i)

  -- where as many are marked as there are steps, all are
  pub ends_by_count : length es ≤ count → AreAll
  ends_by_count long t i =
      ⊎_elim (λ (on : w.set t.id ≡ true). on ∙ sym (w.inside t i on))
      (λ (off : w.set t.id ≡ false). absurd (omega (arith, long, lacks_one h w.set t i off, w.counted, length-map es (λ (e : KeyedStep). e.step))))
      (cases_Bool (w.set t.id))

  module _ (all : AreAll) where
    pub marks_are : now ≡ map (marked_by (consequences h n)) es
    marks_are = w.marks ∙ same es (λ t i. all t i)
      where
        same : (l : List KeyedStep) → ((t : Step) → IsIn t (steps l) → w.set t.id ≡ consequences h n t.id) → map (marked_by w.set) l ≡ map (marked_by (consequences h n)) l
        same [] e = refl
        same (x ∷ l) e = ap₂ (λ (z : KeyedStep) (m : List KeyedStep). z ∷ m) (ap (λ m. marked_as m x) (e x.step (inl refl))) (same l (λ t i. e t (inr i)))

    pub count_is : count ≡ length (within h (consequences h n))
    count_is = w.counted ∙ ap length (filter-same (λ s. w.set s.id) (λ s. consequences h n s.id) h (from_members (λ s. w.set s.id ≡ consequences h n s.id) h all))

-- keyed steps marked by a set are marked where it has their number
module _ (set : ℕ → Bool) where
  unmarked_off : (es : List KeyedStep) (m : ℕ) → set m ≡ false → is_marked (map (marked_by set) es) m ≡ false
  unmarked_off [] m off = refl
  unmarked_off (x ∷ es) m off =
      let rest = unmarked_off es m off in
      ⊎_elim
      (λ (e : (x.step.id == m) ≡ true).
      or_from (set x.step.id && x.step.id == m) (is_marked (map (marked_by set) es) m) (and_left (set x.step.id) (x.step.id == m) (ap set (eqb-true x.step.id m e) ∙ off)) rest)
      (λ (e : (x.step.id == m) ≡ false). or_from (set x.step.id && x.step.id == m) (is_marked (map (marked_by set) es) m) (and_right (set x.step.id) (x.step.id == m) e) rest)
      (cases_Bool (x.step.id == m))

  marked_on : (es : List KeyedStep) (u : Step) → IsIn u (steps es) → set u.id ≡ true → is_marked (map (marked_by set) es) u.id ≡ true
  marked_on [] u i on = absurd i
  marked_on (x ∷ es) u (inl q) on =
      let id : x.step.id ≡ u.id = ap (λ (s : Step). s.id) (sym q) in
      or_left (set x.step.id && x.step.id == u.id) (is_marked (map (marked_by set) es) u.id) (and_from (set x.step.id) (x.step.id == u.id) (ap set id ∙ on) (eq-eqb x.step.id u.id id))
  marked_on (x ∷ es) u (inr i) on = or_right (set x.step.id && x.step.id == u.id) (is_marked (map (marked_by set) es) u.id) (marked_on es u i on)

  marked_where : (es : List KeyedStep) (u : Step) → IsIn u (steps es) → is_marked (map (marked_by set) es) u.id ≡ set u.id
  marked_where es u i =
      ⊎_elim (λ (on : set u.id ≡ true). marked_on es u i on ∙ sym on) (λ (off : set u.id ≡ false). unmarked_off es u.id off ∙ sym off)
      (cases_Bool (set u.id))

-- keyed steps marked by the consequences of a step are closed
pub marks_closed : (es : List KeyedStep) (n : ℕ) → IsRising (steps es) → AreMarksClosed (map (marked_by (consequences (steps es) n)) es)
marks_closed es n rising =
    let whole = consequences (steps es) n in
    subst (λ (l : List Step). IsClosed l (is_marked (map (marked_by whole) es))) (sym (steps_kept whole es))
    (λ (t s : Step) it is on depends.
    marked_where whole es t it ∙ consequences_closed (steps es) n rising t s it is (sym (marked_where whole es s is) ∙ on) depends)
