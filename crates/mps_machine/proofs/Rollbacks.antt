-- Of two rollbacks either may come first.
use Rattle.std.proofs.Common.{◌≡◌, ℕ, Bool, true, false, not, List, [], ◌∷◌, Option, Some, None, Result, Err, refl, sym, ap, ◌∙◌, arith, ⊎_elim, inl, inr}
use Rattle.std.specs.Prelude.{◌==◌, IsOk}
use Rattle.std.specs.List.{filter}
use Rattle.std.proofs.lemmas.Bool.{cases_Bool, cond-false, eqb-true, not-true, not_from_false}
use Rattle.mps_base.specs.declared.action.Step.{Step}
use Rattle.mps_command.specs.declared.answer.Refusal.{Refusal}
use Rattle.mps_command.specs.declared.answer.Refusal.TheVariants.{NoStep}
use Rattle.mps_local.specs.Local.{LocalType}
use Rattle.mps_history.specs.Commits.{is_commit, commits_from}
use Rattle.mps_history.specs.Dependence.{consequences, least}
use Rattle.mps_history.specs.Removals.{without_future, both_futures}
use Rattle.mps_history.specs.Steps.{IsIn, IsRising, numbers, step_of, within, without}
use Rattle.mps_history.proofs.Least.{same_consequences, both_removed, either_first, gone_with_first}
use Rattle.mps_history.proofs.Order.{IsIn-filter, filter-IsIn, step_of_found, step_of_member, IsRising-filter}
use Rattle.mps_history.proofs.Reaching.{consequences_closed}
use Rattle.mps_machine.specs.Machine.{State, owner_fault, rolled_back, rollback, IsSound}
use Rattle.mps_machine.specs.Undoing.{RollbacksCommute}
use Rattle.mps_machine.proofs.Sound.{least_none, no_member}
use Rattle.mps_machine.proofs.Undoing.{rollback_is}

-- where a rollback is accepted, the step is the role's own, and no commit goes
accepted_parts : (st : State) (p n : ℕ) → IsOk (rollback st p n).0 → (owner_fault p (step_of st.history n) ≡ None) × (least (commits_from st.history n) ≡ None)
accepted_parts st p n ok = grind arith

-- and the step and its consequences are removed
accepted_is : (st : State) (p n : ℕ) → IsOk (rollback st p n).0 → rollback st p n ≡ rolled_back st n
accepted_is st p n ok = let k = accepted_parts st p n ok in rollback_is st p n None None k.0 k.1

-- and where that is so, it is
accepted_from : (st : State) (p n : ℕ) → owner_fault p (step_of st.history n) ≡ None → least (commits_from st.history n) ≡ None → IsOk (rollback st p n).0
accepted_from st p n owner open_step = rw (rollback_is st p n None None owner open_step) refl

-- a number that no step has finds none
step_of_none : (h : List Step) (n : ℕ) → ((t : Step) → IsIn t h → (t.id == n) ≡ false) → step_of h n ≡ None
step_of_none [] n other = refl
step_of_none (x ∷ h) n other = cond-false (x.id == n) (Some x) (step_of h n) (other x (inl refl)) ∙ step_of_none h n (λ t i. other t (inr i))

-- a list without members is empty
pub none_there : (l : List Step) → ((t : Step) → IsIn t l → ⊥) → l ≡ []
none_there [] none = refl
none_there (x ∷ l) none = absurd (none x (inl refl))

-- where a set went
module _ (h : List Step) (rising : IsRising h) (set : ℕ → Bool) (n : ℕ) where
  -- a step that isn't in it is found as before
  pub found_still : set n ≡ false → step_of (without h set) n ≡ step_of h n
  found_still stays = by_found (step_of h n) refl
    where
      by_found : (o : Option Step) → step_of h n ≡ o → step_of (without h set) n ≡ o
      by_found None e = step_of_none (without h set) n (λ t i. not_found t (filter-IsIn (λ x. not (set x.id)) t h i).0 e)
        where
          not_found : (t : Step) → IsIn t h → step_of h n ≡ None → (t.id == n) ≡ false
          not_found t i none = grind (arith, step_of_member h t rising i, cases_Bool (t.id == n), eqb-true)
      by_found (Some s) e = grind (arith, step_of_found h n s e, step_of_member, IsRising-filter, IsIn-filter, not_from_false)

  -- a step that is in it isn't found
  pub found_no_more : set n ≡ true → step_of (without h set) n ≡ None
  found_no_more goes = step_of_none (without h set) n (λ t i. grind (arith, filter-IsIn (λ x. not (set x.id)) t h i, not-true, cases_Bool (t.id == n), eqb-true))

module _ (h : List Step) (rising : IsRising h) (m n : ℕ) where
  abbrev k : List Step
  k = without_future h m

  abbrev commits : List Step → List Step
  commits l = filter (λ t. is_commit t.act) (within l (consequences l n))

  -- the commits that go with the second step, before the first removal and after it
  commit_still : (t : Step) → consequences h m t.id ≡ false → IsIn t (commits h) → IsIn t (commits k)
  commit_still t stays i = grind (arith, filter-IsIn, IsIn-filter, not_from_false, same_consequences h (consequences h m) rising (consequences_closed h m rising) n t)

  commit_before : (t : Step) → IsIn t (commits k) → IsIn t (commits h)
  commit_before t i = grind (arith, filter-IsIn, IsIn-filter, not-true, same_consequences h (consequences h m) rising (consequences_closed h m rising) n t)

  -- where no commit went with the second step before, none does after the first removal
  none_still : least (commits_from h n) ≡ None → least (commits_from k n) ≡ None
  none_still none = ap (λ l. least (numbers l)) (none_there (commits k) (λ t i. no_member (commits h) (least_none (commits_from h n) none) t (commit_before t i)))

  -- where none goes with either, one after the other, none goes with the second at once
  none_before : least (commits_from h m) ≡ None → least (commits_from k n) ≡ None → least (commits_from h n) ≡ None
  none_before first second =
      ap (λ l. least (numbers l))
      (none_there (commits h)
      (λ t i.
      ⊎_elim
      (λ (went : consequences h m t.id ≡ true).
      no_member (filter (λ s. is_commit s.act) (within h (consequences h m))) (least_none (commits_from h m) first) t (grind (arith, filter-IsIn, IsIn-filter)))
      (λ (stays : consequences h m t.id ≡ false). no_member (commits k) (least_none (commits_from k n) second) t (commit_still t stays i))
      (cases_Bool (consequences h m t.id))))

module _ (types : List LocalType) (st : State) (ok : IsSound types st) where
  abbrev old : List Step
  old = st.history

  -- the state after the first rollback
  after_first : (p m : ℕ) → IsOk (rollback st p m).0 → (rollback st p m).1 ≡ (rolled_back st m).1
  after_first p m first = ap (λ (r : Result (List ℕ) Refusal × State). r.1) (accepted_is st p m first)

  -- where the second step stays, its rollback is accepted after the first exactly where it is before
  accepted_still : (p q m n : ℕ) → IsOk (rollback st p m).0 → consequences old m n ≡ false → IsOk (rollback st q n).0 → IsOk (rollback (rollback st p m).1 q n).0
  accepted_still p q m n first stays second =
      let parts = accepted_parts st q n second in
      rw (after_first p m first) (accepted_from (rolled_back st m).1 q n (ap (owner_fault q) (found_still old ok.rising (consequences old m) n stays) ∙ parts.0) (none_still old ok.rising m n parts.1))

  -- and the other way round
  accepted_before : (p q m n : ℕ) → IsOk (rollback st p m).0 → consequences old m n ≡ false → IsOk (rollback (rollback st p m).1 q n).0 → IsOk (rollback st q n).0
  accepted_before p q m n first stays second =
      let now : IsOk (rollback (rolled_back st m).1 q n).0 = rw (after_first p m first) at second in
      let parts = accepted_parts (rolled_back st m).1 q n now in
      accepted_from st q n (ap (owner_fault q) (sym (found_still old ok.rising (consequences old m) n stays)) ∙ parts.0) (none_before old ok.rising m n (accepted_parts st p m first).1 parts.1)

  -- where it went, there is no such step
  gone_already : (p q m n : ℕ) → IsOk (rollback st p m).0 → consequences old m n ≡ true → rollback (rollback st p m).1 q n ≡ (Err NoStep, (rollback st p m).1)
  gone_already p q m n first went = rw (after_first p m first) (grind (arith, found_no_more old ok.rising (consequences old m) n went))

  -- what is left of both
  both_gone : (p q m n : ℕ) → IsOk (rollback st p m).0 → IsOk (rollback st q n).0 → (rollback (rollback st p m).1 q n).1 ≡ record st { history = without old (both_futures old m n) }
  both_gone p q m n first second =
      let left = λ (l : List Step). let left_state : State = record st { history = l } in left_state in
      ⊎_elim
      (λ (went : consequences old m n ≡ true).
      ap (λ (r : Result (List ℕ) Refusal × State). r.1) (gone_already p q m n first went)
      ∙ after_first p m first
      ∙ ap left (sym (gone_with_first old m n ok.rising went) ∙ both_removed old m n ok.rising))
      (λ (stays : consequences old m n ≡ false).
      ap (λ (r : Result (List ℕ) Refusal × State). r.1) (accepted_is (rollback st p m).1 q n (accepted_still p q m n first stays second))
      ∙ ap (λ (s : State). (rolled_back s n).1) (after_first p m first)
      ∙ ap left (both_removed old m n ok.rising))
      (cases_Bool (consequences old m n))

  -- in either order
  either_way : (p q m n : ℕ) → IsOk (rollback st p m).0 → IsOk (rollback st q n).0 → (rollback (rollback st p m).1 q n).1 ≡ (rollback (rollback st q n).1 p m).1
  either_way p q m n first second =
      both_gone p q m n first second
      ∙ ap (λ (l : List Step). let left_state : State = record st { history = l } in left_state) (sym (both_removed old m n ok.rising) ∙ either_first old m n ok.rising ∙ both_removed old n m ok.rising)
      ∙ sym (both_gone q p n m second first)

pub rollbacks_commute : (types : List LocalType) (st : State) → IsSound types st → RollbacksCommute st
rollbacks_commute types st ok = record {
  either_order = either_way types st ok;
  both = both_gone types st ok;
  accepted = λ p q m n first stays.
      let here = not-true (consequences st.history m n) stays in
      (accepted_before types st ok p q m n first here, accepted_still types st ok p q m n first here);
  gone = gone_already types st ok;
}
