-- The consequences of a step are the least closed set with it, so removals of them may change places.
use Rattle.std.proofs.Common.{◌≡◌, ℕ, Bool, true, false, not, List, [], ◌∷◌, refl, sym, ap, ◌∙◌, arith, inl, inr}
use Rattle.std.specs.Prelude.{◌==◌, ◌||◌, ◌&&◌}
use Rattle.std.specs.List.{filter, AllByRecursion}
use Rattle.std.proofs.lemmas.Bool.{cases_Bool, cond-true, cond-false, and_parts, eqb-true, not-true, not_from_false, or_cases, or_left, or_right}
use Rattle.mps_base.specs.declared.action.Step.{Step}
use Rattle.mps_history.specs.Steps.{IsIn, IsRising, without}
use Rattle.mps_history.specs.Dependence.{IsClosed, joined, consequences}
use Rattle.mps_history.specs.Removals.{without_future, both_futures}
use Rattle.mps_history.proofs.Commits.{link_stays}
use Rattle.mps_history.proofs.Order.{from_members, filter-IsIn, IsIn-filter, IsRising-filter}
use Rattle.mps_history.proofs.Reaching.{next_set, any_member, consequences_closed, consequences_self}
use Rattle.mps_history.proofs.Removal.{filter-same}

-- the members of one set are members of the other
abbrev pub IsWithin : List Step → (ℕ → Bool) → (ℕ → Bool) → Type 0
IsWithin h small large = (t : Step) → IsIn t h → small t.id ≡ true → large t.id ≡ true

module _ (h : List Step) (large : ℕ → Bool) (closed : IsClosed h large) where
  -- a step that joins is in each closed set that has the members so far
  next_within : (set : ℕ → Bool) (x : Step) → IsIn x h → IsWithin h set large → IsWithin h (next_set h set x) large
  next_within set x ix within t i e = grind (arith, any_member, and_parts, cond-true, cond-false, or_cases, eqb-true, cases_Bool)

  -- so what a pass joins is
  joined_within : (set : ℕ → Bool) (l : List Step) → ((t : Step) → IsIn t l → IsIn t h) → IsWithin h set large → IsWithin h (joined h set l) large
  joined_within set [] sub within = within
  joined_within set (x ∷ l) sub within = joined_within (next_set h set x) l (λ t i. sub t (inr i)) (next_within set x (sub x (inl refl)) within)

  -- and so are the consequences of each of its numbers
  pub consequences_within : (n : ℕ) → large n ≡ true → IsWithin h (consequences h n) large
  consequences_within n has = joined_within (λ m. m == n) h (λ t i. i) (λ t i e. ap large (eqb-true t.id n e) ∙ has)

-- a filter of what a filter left keeps what passes both
pub filter_twice : (f g k : Step → Bool) (h : List Step) → AllByRecursion (λ t. k t ≡ (g t && f t)) h → filter f (filter g h) ≡ filter k h
filter_twice f g k [] a = refl
filter_twice f g k (x ∷ h) a = grind (arith, filter_twice f g k h a.1, cases_Bool)

-- tests that imply each other are the same
same_test : (a b : Bool) → (a ≡ true → b ≡ true) → (b ≡ true → a ≡ true) → a ≡ b
same_test a b forth back = grind (arith, cases_Bool a, cases_Bool b)

-- where a closed set went, those of the other steps that depend on a step are the same
module _ (h : List Step) (set : ℕ → Bool) (rising : IsRising h) (closed : IsClosed h set) where
  abbrev k : List Step
  k = without h set

  -- a step that isn't in the set is in the rest, and no other
  in_rest : (t : Step) → IsIn t h → set t.id ≡ false → IsIn t k
  in_rest t i stays = IsIn-filter (λ x. not (set x.id)) t h i (not_from_false (set t.id) stays)

  from_rest : (t : Step) → IsIn t k → IsIn t h × (set t.id ≡ false)
  from_rest t i = let r = filter-IsIn (λ x. not (set x.id)) t h i in (r.0, not-true (set t.id) r.1)

  -- a closed set of the history is closed in the rest
  pub closed_in_rest : (other : ℕ → Bool) → IsClosed h other → IsClosed k other
  closed_in_rest other c t s it is e d = grind (arith, from_rest, link_stays)

  -- a closed set of the rest, together with what went, is closed in the history
  pub closed_together : (other : ℕ → Bool) → IsClosed k other → IsClosed h (λ n. set n || other n)
  closed_together other c t s it is e d = grind (arith, in_rest, link_stays, or_cases, or_left, or_right, cases_Bool)

  -- what depends on the step in the history does in the rest
  into_rest : (n : ℕ) (t : Step) → IsIn t h → set t.id ≡ false → consequences h n t.id ≡ true → consequences k n t.id ≡ true
  into_rest n t i stays e =
      let closed_both = closed_together (consequences k n) (consequences_closed k n (IsRising-filter (λ x. not (set x.id)) h rising)) in
      let both = consequences_within h (λ m. set m || consequences k n m) closed_both n (or_right (set n) (consequences k n n) (consequences_self k n)) t i e in
      grind (arith, or_cases)

  -- and the other way round
  out_of_rest : (n : ℕ) (t : Step) → IsIn t h → set t.id ≡ false → consequences k n t.id ≡ true → consequences h n t.id ≡ true
  out_of_rest n t i stays e = consequences_within k (consequences h n) (closed_in_rest (consequences h n) (consequences_closed h n rising)) n (consequences_self h n) t (in_rest t i stays) e

  -- so the consequences in the rest are those of the history
  pub same_consequences : (n : ℕ) (t : Step) → IsIn t h → set t.id ≡ false → consequences k n t.id ≡ consequences h n t.id
  same_consequences n t i stays = same_test (consequences k n t.id) (consequences h n t.id) (out_of_rest n t i stays) (into_rest n t i stays)

  -- a removal from the rest leaves the history without both
  pub rest_without : (n : ℕ) → without_future k n ≡ without h (λ m. set m || consequences h n m)
  rest_without n =
      filter_twice (λ t. not (consequences k n t.id)) (λ t. not (set t.id)) (λ t. not (set t.id || consequences h n t.id)) h
      (from_members (λ t. not (set t.id || consequences h n t.id) ≡ (not (set t.id) && not (consequences k n t.id))) h (λ t i. grind (arith, same_consequences n t i, cases_Bool (set t.id))))

-- one removal after the other leaves the history without both
pub both_removed : (h : List Step) (m n : ℕ) → IsRising h → without_future (without_future h m) n ≡ without h (both_futures h m n)
both_removed h m n r = rest_without h (consequences h m) r (consequences_closed h m r) n

-- in either order
pub either_first : (h : List Step) (m n : ℕ) → IsRising h → without_future (without_future h m) n ≡ without_future (without_future h n) m
either_first h m n r =
    both_removed h m n r
    ∙ filter-same (λ t. not (both_futures h m n t.id)) (λ t. not (both_futures h n m t.id)) h
    (from_members (λ t. not (both_futures h m n t.id) ≡ not (both_futures h n m t.id)) h (λ t i. grind (arith, cases_Bool (consequences h m t.id), cases_Bool (consequences h n t.id))))
    ∙ sym (both_removed h n m r)

-- what goes with a step that went is gone
pub gone_with_first : (h : List Step) (m n : ℕ) → IsRising h → consequences h m n ≡ true → without_future (without_future h m) n ≡ without_future h m
gone_with_first h m n r e =
    both_removed h m n r
    ∙ filter-same (λ t. not (both_futures h m n t.id)) (λ t. not (consequences h m t.id)) h
    (from_members (λ t. not (both_futures h m n t.id) ≡ not (consequences h m t.id)) h (λ t i. let within = consequences_within h (consequences h m) (consequences_closed h m r) n e t i in grind (arith, cases_Bool (consequences h n t.id), cases_Bool (consequences h m t.id))))
