-- What is left of the marks, where the newest marked step goes.
use Rattle.std.proofs.Common.{◌≡◌, ◌+◌, ℕ, Bool, true, false, List, [], ◌∷◌, ◌++◌, length, map, not, Some, None, refl, sym, ap, ◌∙◌, subst, arith, ⊎_elim, inl, inr, length-append, append_assoc, append-nil}
use Rattle.std.specs.Prelude.{◌==◌, ◌&&◌, ◌||◌, nat_lt}
use Rattle.std.specs.List.{filter}
use Rattle.std.proofs.lemmas.Bool.{cases_Bool, cond-true, cond-false, ne_eqb, ltb-true, and_parts, and_from, and_right, or_left, false_from_ne_true, both_ways}
use Rattle.std.proofs.lemmas.List.{map-append}
use Rattle.std.proofs.lemmas.List.Elements.{filter-append}
use Rattle.mps_base.specs.declared.action.Step.{Step}
use Rattle.mps_history.specs.Steps.{IsIn, IsRising, numbers, within, without, sends, receives, goes_to, comes_from}
use Rattle.mps_history.specs.Dependence.{depends_on, is_matched, consequences}
use Rattle.mps_history.specs.Commits.{is_commit, commits_from}
use Rattle.mps_history.proofs.Order.{rising_apart, IsIn-append, IsIn-append_left, IsIn-append_right}
use Rattle.mps_arena.specs.Keys.{AreDistinct, last_key}
use Rattle.mps_arena.specs.KeyedSteps.{KeyedStep, steps, keys_of, any_step, keyed_at, AreSound}
use Rattle.mps_arena.proofs.Keeping.{others_are}
use Rattle.mps_links.specs.Marks.{marked_keys, marked_steps, is_marked, AreMarksClosed, marked_by, unmarked, unmarked_steps, marked_commits}
use Rattle.mps_links.proofs.StepKeys.{steps_around, in_middle, none_passes}
use Rattle.mps_links.proofs.Firsts.{keyed_in, rising_behind}
use Rattle.mps_links.proofs.Lasts.{IsLast, last_is}
use Rattle.mps_links.proofs.Marked.{marked_here, marked_with, marked_without, keys_marked, keys_from}

filter_beside : (p : Step → Bool) (a b : List Step) (x : Step) → p x ≡ false → filter p (a ++ x ∷ b) ≡ filter p (a ++ b)
filter_beside p a b x f = filter-append p a (x ∷ b) ∙ ap (λ l. filter p a ++ l) (cond-false (p x) (x ∷ filter p b) (filter p b) f) ∙ sym (filter-append p a b)

marked_beside : (a b : List KeyedStep) (x : KeyedStep) (n : ℕ) → (x.step.id == n) ≡ false → is_marked (a ++ x ∷ b) n ≡ is_marked (a ++ b) n
marked_beside [] b x n f = ap (λ k. k || is_marked b n) (and_right x.marked (x.step.id == n) f)
marked_beside (y ∷ a) b x n f = ap (λ k. (y.marked && y.step.id == n) || k) (marked_beside a b x n f)

module _ (es : List KeyedStep) (k : ℕ) (sound : AreSound es) (newest : last_key None (marked_keys es) ≡ Some k) where
  last : IsLast (λ s. is_marked es s.id) es k
  last = last_is (λ s. is_marked es s.id) es k (ap (last_key None) (keys_marked es sound.rising) ∙ newest)

  abbrev a : List KeyedStep
  a = last.before

  abbrev b : List KeyedStep
  b = last.behind

  abbrev x : KeyedStep
  x = last.keyed

  left : filter (λ e. not (e.key == k)) es ≡ a ++ b
  left = ap (filter (λ e. not (e.key == k))) last.parts ∙ others_are k a b x (subst (λ (l : List KeyedStep). AreDistinct (keys_of any_step l)) last.parts sound.distinct) last.key

  x_marked : x.marked ≡ true
  x_marked = sym (marked_here es a b x sound.rising last.parts) ∙ last.passes

  old_steps : steps es ≡ steps a ++ x.step ∷ steps b
  old_steps = ap steps last.parts ∙ steps_around a b x

  pub unmarked_stay : unmarked_steps (filter (λ e. not (e.key == k)) es) ≡ unmarked_steps es
  unmarked_stay = grind (arith, left, filter-append, cond-false, x_marked)

  pub one_fewer : length (marked_keys (filter (λ e. not (e.key == k)) es)) + 1 ≡ length (marked_keys es)
  one_fewer = grind (arith, marked_with, x_marked, left, length-append, filter-append, map-append)

  -- the step of that key is the last of the marked ones
  pub last_marked : (y : KeyedStep) → keyed_at k es ≡ Some y → marked_steps es ≡ marked_steps (filter (λ e. not (e.key == k)) es) ++ y.step ∷ []
  last_marked y found =
      let p = λ (e : KeyedStep). e.marked in
      let here : keyed_at x.key es ≡ Some x = keyed_in es sound.distinct sound.rising a b x last.parts in
      let around : es ≡ (a ++ x ∷ []) ++ b = last.parts ∙ sym (append_assoc a (x ∷ []) b) in
      let none : filter p b ≡ [] = none_in (filter p b) (sym (keys_from es sound.rising (a ++ x ∷ []) b around) ∙ last.none) in
      grind (arith, filter-append, append-nil, cond-true, x_marked, map-append, left)
    where
      none_in : (l : List KeyedStep) → map (λ e. e.key) l ≡ [] → l ≡ []
      none_in [] e = refl
      none_in (z ∷ l) e = absurd cc

  module _ (closed : AreMarksClosed es) where
    new_steps : steps (a ++ b) ≡ steps a ++ steps b
    new_steps = map-append (λ (e : KeyedStep). e.step) a b

    in_old : (u : Step) → IsIn u (steps (a ++ b)) → IsIn u (steps es)
    in_old u i =
        subst (λ (l : List Step). IsIn u l) (sym old_steps)
        (⊎_elim (λ (j : IsIn u (steps a)). IsIn-append_left u (steps a) (x.step ∷ steps b) j) (λ (j : IsIn u (steps b)). IsIn-append_right u (steps a) (x.step ∷ steps b) (inr j))
        (IsIn-append u (steps a) (steps b) (subst (λ (l : List Step). IsIn u l) new_steps i)))

    rising : IsRising (steps a ++ x.step ∷ steps b)
    rising = subst IsRising old_steps sound.rising

    -- no step that is left is a later one of the same role
    none_later : (u : Step) → IsIn u (steps (a ++ b)) → nat_lt x.step.id u.id ≡ true → (x.step.role == u.role) ≡ true → ⊥
    none_later u i less own =
        let on : depends_on (steps es) u x.step ≡ true = and_from (nat_lt x.step.id u.id) (x.step.role == u.role || is_matched (steps es) x.step u) less (or_left (x.step.role == u.role) (is_matched (steps es) x.step u) own) in
        let marked : is_marked es u.id ≡ true = closed u x.step (in_old u i) (in_middle es a b x last.parts) last.passes on in
        ⊎_elim
        (λ (j : IsIn u (steps a)). let before = rising_apart (steps a) (x.step ∷ steps b) u x.step rising j (inl refl) in let after = ltb-true x.step.id u.id less in absurd (omega arith))
        (λ (j : IsIn u (steps b)). both_ways (is_marked es u.id) (none_passes (λ s. is_marked es s.id) b u last.none j) marked)
        (IsIn-append u (steps a) (steps b) (subst (λ (l : List Step). IsIn u l) new_steps i))

    apart : (u : Step) → IsIn u (steps (a ++ b)) → (x.step.id == u.id) ≡ false
    apart u i =
        ⊎_elim
        (λ (j : IsIn u (steps a)). let less = rising_apart (steps a) (x.step ∷ steps b) u x.step rising j (inl refl) in ne_eqb x.step.id u.id (λ e. omega arith))
        (λ (j : IsIn u (steps b)). let less = rising_behind es sound.distinct sound.rising a b x u last.parts j in ne_eqb x.step.id u.id (λ e. omega arith))
        (IsIn-append u (steps a) (steps b) (subst (λ (l : List Step). IsIn u l) new_steps i))

    mark_same : (u : Step) → IsIn u (steps (a ++ b)) → is_marked es u.id ≡ is_marked (a ++ b) u.id
    mark_same u i = ap (λ l. is_marked l u.id) last.parts ∙ marked_beside a b x u.id (apart u i)

    count_same : (p : Step → Bool) (u : Step) → IsIn u (steps (a ++ b)) → (p x.step ≡ true → (x.step.role == u.role) ≡ true) → length (filter (λ y. nat_lt y.id u.id && p y) (steps es)) ≡ length (filter (λ y. nat_lt y.id u.id && p y) (steps (a ++ b)))
    count_same p u i own = grind (arith, false_from_ne_true, and_parts, none_later, old_steps, filter_beside, new_steps)

    on_same : (t s : Step) → IsIn t (steps (a ++ b)) → IsIn s (steps (a ++ b)) → depends_on (steps es) t s ≡ depends_on (steps (a ++ b)) t s
    on_same t s it is =
        let sent = count_same (sends s.role t.role) s is (λ e. (and_parts (x.step.role == s.role) (goes_to t.role x.step.act) e).0) in
        let got = count_same (receives s.role t.role) t it (λ e. (and_parts (x.step.role == t.role) (comes_from s.role x.step.act) e).0) in
        (cc)

    pub still_closed : AreMarksClosed (filter (λ e. not (e.key == k)) es)
    still_closed = grind (arith, left, mark_same, in_old, on_same)

pub none_go : (es : List KeyedStep) → marked_keys es ≡ [] → unmarked_steps es ≡ steps es
none_go [] e = refl
none_go (y ∷ es) e =
    ⊎_elim
    (λ (t : y.marked ≡ true). absurd cc)
    (λ (f : y.marked ≡ false).
    ap steps (cond-true (not y.marked) (y ∷ filter (λ e. not e.marked) es) (filter (λ e. not e.marked) es) (ap not f)) ∙ ap (λ l. y.step ∷ l) (none_go es (sym (marked_without y es f) ∙ e)))
    (cases_Bool y.marked)

pub unmarked_left : (es : List KeyedStep) (set : ℕ → Bool) → unmarked_steps (map (marked_by set) es) ≡ without (steps es) set
unmarked_left [] set = refl
unmarked_left (y ∷ es) set = grind (arith, unmarked_left es set, cases_Bool (set y.step.id))

pub marked_within : (es : List KeyedStep) (set : ℕ → Bool) → marked_steps (map (marked_by set) es) ≡ within (steps es) set
marked_within [] set = refl
marked_within (y ∷ es) set = grind (arith, marked_within es set, cases_Bool (set y.step.id))

-- the marked commits, where a step and all that depend on it are marked
pub marked_commits_are : (es : List KeyedStep) (n : ℕ) → marked_commits (map (marked_by (consequences (steps es) n)) es) ≡ commits_from (steps es) n
marked_commits_are es n = ap (λ (h : List Step). numbers (filter (λ s. is_commit s.act) h)) (marked_within es (consequences (steps es) n))

pub marked_count : (es : List KeyedStep) (set : ℕ → Bool) → length (marked_keys (map (marked_by set) es)) ≡ length (within (steps es) set)
marked_count [] set = refl
marked_count (y ∷ es) set = grind (arith, marked_count es set, cases_Bool (set y.step.id))

pub none_unmarked : (es : List KeyedStep) → marked_keys (map unmarked es) ≡ []
none_unmarked [] = refl
none_unmarked (y ∷ es) = none_unmarked es
