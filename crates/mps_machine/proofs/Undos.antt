-- Of two undos either may come first.
use Rattle.std.proofs.Common.{◌≡◌, ◌≢◌, ℕ, true, false, not, List, None, Result, refl, sym, ap, ◌∙◌, subst, arith, ⊎_elim}
use Rattle.std.specs.Prelude.{◌==◌, ◌||◌, ◌&&◌, IsOk}
use Rattle.std.specs.List.{filter}
use Rattle.std.proofs.lemmas.Bool.{cases_Bool, ne_eqb, eqb-true, eqb-false, eq-eqb, not-true}
use Rattle.mps_base.specs.declared.action.Step.{Step}
use Rattle.mps_command.specs.declared.answer.Refusal.{Refusal}
use Rattle.mps_local.specs.Local.{LocalType}
use Rattle.mps_history.specs.Dependence.{IsClosed, consequences, dependents, least}
use Rattle.mps_history.specs.Steps.{IsIn, IsRising, numbers, step_of, within, without}
use Rattle.mps_history.proofs.Least.{filter_twice, same_consequences}
use Rattle.mps_history.proofs.Order.{from_members, IsIn-filter, filter-IsIn}
use Rattle.mps_machine.specs.Machine.{State, owner_fault, commit_fault, undone, undo, IsSound}
use Rattle.mps_machine.specs.Undoing.{UndosCommute}
use Rattle.mps_machine.proofs.Rollbacks.{found_still, found_no_more, none_there}
use Rattle.mps_machine.proofs.Sound.{least_none, no_member, alone_closed}
use Rattle.mps_machine.proofs.Undoing.{undo_is}

-- where an undo is accepted, the step is the role's own, no commit, and nothing depends on it
record IsFree (st : State) (p n : ℕ) : Type 0 where
  owner : owner_fault p (step_of st.history n) ≡ None
  commit : commit_fault (step_of st.history n) ≡ None
  unneeded : least (dependents st.history n) ≡ None

-- these are what an undo asks for
free_parts : (st : State) (p n : ℕ) → IsOk (undo st p n).0 → IsFree st p n
free_parts st p n ok = grind arith

-- and then the step is removed
free_is : (st : State) (p n : ℕ) → IsFree st p n → undo st p n ≡ undone st n
free_is st p n free = undo_is st p n None None None free.owner free.commit free.unneeded

module _ (h : List Step) (rising : IsRising h) (m n : ℕ) (alone : IsClosed h (λ i. i == m)) where
  abbrev k : List Step
  k = without h (λ i. i == m)

  abbrev others : List Step → List Step
  others l = filter (λ t. not (t.id == n)) (within l (consequences l n))

  -- what depends on the second step after the first is gone did before
  other_before : (t : Step) → IsIn t (others k) → IsIn t (others h)
  other_before t i = grind (arith, filter-IsIn, IsIn-filter, not-true, same_consequences h (λ i. i == m) rising alone n t)

  -- nothing comes to depend on the second step
  unneeded_still : least (dependents h n) ≡ None → least (dependents k n) ≡ None
  unneeded_still none = ap (λ l. least (numbers l)) (none_there (others k) (λ t i. no_member (others h) (least_none (dependents h n) none) t (other_before t i)))

-- two steps may go in either order
without_either : (h : List Step) (m n : ℕ) → without (without h (λ i. i == m)) (λ i. i == n) ≡ without (without h (λ i. i == n)) (λ i. i == m)
without_either h m n =
    filter_twice (λ t. not (t.id == n)) (λ t. not (t.id == m)) (λ t. not (t.id == m || t.id == n)) h
    (from_members (λ t. not (t.id == m || t.id == n) ≡ (not (t.id == m) && not (t.id == n))) h (λ t i. grind (arith, cases_Bool (t.id == m))))
    ∙ sym
    (filter_twice (λ t. not (t.id == m)) (λ t. not (t.id == n)) (λ t. not (t.id == m || t.id == n)) h
    (from_members (λ t. not (t.id == m || t.id == n) ≡ (not (t.id == n) && not (t.id == m))) h (λ t i. grind (arith, cases_Bool (t.id == m), cases_Bool (t.id == n)))))

module _ (types : List LocalType) (st : State) (ok : IsSound types st) where
  -- the state after the first undo
  after_undo : (p m : ℕ) → IsOk (undo st p m).0 → (undo st p m).1 ≡ (undone st m).1
  after_undo p m first = ap (λ (r : Result (List ℕ) Refusal × State). r.1) (free_is st p m (free_parts st p m first))

  -- the second step is free then, too
  free_still : (p q m n : ℕ) → IsOk (undo st p m).0 → IsOk (undo st q n).0 → m ≢ n → IsFree (undone st m).1 q n
  free_still p q m n first second other =
      let one = free_parts st p m first in
      let two = free_parts st q n second in
      let alone = alone_closed st.history m ok.rising (least_none (dependents st.history m) one.unneeded) in
      let same = found_still st.history ok.rising (λ i. i == m) n (ne_eqb n m (λ e. other (sym e))) in
      record {
        owner = ap (owner_fault q) same ∙ two.owner;
        commit = ap commit_fault same ∙ two.commit;
        unneeded = unneeded_still st.history ok.rising m n alone two.unneeded;
      }

  -- so its undo is accepted
  accepted_too : (p q m n : ℕ) → IsOk (undo st p m).0 → IsOk (undo st q n).0 → m ≢ n → IsOk (undo (undo st p m).1 q n).0
  accepted_too p q m n first second other = rw (after_undo p m first, free_is (undone st m).1 q n (free_still p q m n first second other)) refl

  -- the state after both, of different steps
  after_both : (p q m n : ℕ) → IsOk (undo st p m).0 → IsOk (undo st q n).0 → m ≢ n → (undo (undo st p m).1 q n).1 ≡ (undone (undone st m).1 n).1
  after_both p q m n first second other =
      ap (λ (s : State). (undo s q n).1) (after_undo p m first)
      ∙ ap (λ (r : Result (List ℕ) Refusal × State). r.1) (free_is (undone st m).1 q n (free_still p q m n first second other))

  -- an undo of the same step finds none
  again_none : (p q m : ℕ) → IsOk (undo st p m).0 → (undo (undo st p m).1 q m).1 ≡ (undone st m).1
  again_none p q m first =
      ap (λ (s : State). (undo s q m).1) (after_undo p m first)
      ∙ grind (arith, found_no_more st.history ok.rising (λ i. i == m) m (eq-eqb m m refl))

  -- in either order
  either_way : (p q m n : ℕ) → IsOk (undo st p m).0 → IsOk (undo st q n).0 → (undo (undo st p m).1 q n).1 ≡ (undo (undo st q n).1 p m).1
  either_way p q m n first second =
      ⊎_elim
      (λ (y : (m == n) ≡ true).
      let same = eqb-true m n y in
      let second_of_m = subst (λ (i : ℕ). IsOk (undo st q i).0) (sym same) second in
      subst (λ (i : ℕ). (undo (undo st p m).1 q i).1 ≡ (undo (undo st q i).1 p m).1) same (again_none p q m first ∙ sym (again_none q p m second_of_m)))
      (λ (no : (m == n) ≡ false).
      let other = eqb-false m n no in
      after_both p q m n first second other
      ∙ ap (λ (l : List Step). let left : State = record st { history = l } in left) (without_either st.history m n)
      ∙ sym (after_both q p n m second first (λ e. other (sym e))))
      (cases_Bool (m == n))

pub undos_commute : (types : List LocalType) (st : State) → IsSound types st → UndosCommute st
undos_commute types st ok = record { accepted = accepted_too types st ok; either_order = either_way types st ok }
