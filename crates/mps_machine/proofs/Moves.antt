-- Each command adds a step, takes out a closed set without commits, or changes nothing.
use Rattle.std.proofs.Common.{◌≡◌, ℕ, ◌≤◌, Bool, false, List, [], ◌∷◌, Option, Some, None, Result, refl, arith}
use Rattle.std.specs.Prelude.{◌==◌}
use Rattle.std.specs.Option.{option_map}
use Rattle.std.proofs.lemmas.Bool.{ltb-false}
use Rattle.mps_base.specs.declared.action.Act.{Act}
use Rattle.mps_base.specs.declared.action.Act.TheVariants.{Commit}
use Rattle.mps_base.specs.declared.action.Step.{Step}
use Rattle.mps_command.specs.declared.answer.Refusal.{Refusal}
use Rattle.mps_command.specs.declared.answer.Refusal.TheVariants.{Violation as Violates, Needed}
use Rattle.mps_command.specs.Acts.{act_of}
use Rattle.mps_command.specs.declared.command.Change.{Change}
use Rattle.mps_command.specs.declared.command.Change.TheVariants.{Forward, Undo, Rollback, Back}
use Rattle.mps_local.specs.Local.{LocalType}
use Rattle.mps_history.specs.Dependence.{IsClosed, consequences, dependents, least}
use Rattle.mps_history.specs.Steps.{IsIn, step_of, steps_of, without}
use Rattle.mps_history.proofs.Reaching.{consequences_closed}
use Rattle.mps_machine.specs.Machine.{State, most_numbers, view_of, accepted, unless, full_fault, forward, owner_fault, commit_fault, final_fault, undone, undo, rolled_back_unless_final, rollback, since_mark, back_to, serve, IsSound}
use Rattle.mps_machine.specs.Violations.{violation}
use Rattle.mps_machine.proofs.Keeping.{other_number, not_among}
use Rattle.mps_machine.proofs.Sound.{none_under, least_none, alone_closed}

-- no commit is in the set
abbrev pub Spares : List Step → (ℕ → Bool) → Type 0
Spares h set = (c : Step) → IsIn c h → c.act ≡ Commit → set c.id ≡ false

-- what one command does to a state
pub data Move (st new : State) : Type 0 where
  Stays : new ≡ st → Move st new
  Adds : (p : ℕ) (act : Act) → st.next ≤ most_numbers → new ≡ accepted st p act → Move st new
  Removes : (gone : ℕ → Bool) → IsClosed st.history gone → Spares st.history gone → new ≡ record st { history = without st.history gone } → Move st new

-- a refusal changes nothing
moves_unless : {A : Type 0} (fault : Option Refusal) (st : State) (served : Result A Refusal × State) → (fault ≡ None → Move st served.1) → Move st (unless fault st served).1
moves_unless None st served next = next refl
moves_unless (Some refusal) st served next = Stays refl

-- where a session isn't full, a number is left
numbers_left : (st : State) → full_fault st ≡ None → st.next ≤ most_numbers
numbers_left st e = grind (arith, ltb-false)

module _ (types : List LocalType) (st : State) (ok : IsSound types st) where
  abbrev h : List Step
  h = st.history

  -- each kind of command
  forward_moves : (p : ℕ) (act : Act) → Move st (forward types st p act).1
  forward_moves p act = moves_unless (option_map Violates (violation (view_of types h) p act)) st _ (λ _. moves_unless (full_fault st) st _ (λ left. Adds p act (numbers_left st left) refl))

  undo_moves : (p n : ℕ) → Move st (undo st p n).1
  undo_moves p n =
      let by = least (dependents h n) in
      let last = unless (option_map Needed by) st (undone st n) in
      moves_unless (owner_fault p (step_of h n)) st (unless (commit_fault (step_of h n)) st last)
      (λ _. moves_unless (commit_fault (step_of h n)) st last
      (λ free. moves_unless (option_map Needed by) st (undone st n)
      (λ e. Removes (λ m. m == n) (alone_closed h n ok.rising (least_none (dependents h n) (none_under Needed by e))) (λ c i commit. other_number types st ok c i commit n free) refl)))

  rolled_back_moves : (n : ℕ) → Move st (rolled_back_unless_final st n).1
  rolled_back_moves n =
      moves_unless (final_fault h n) st _
      (λ free. Removes (consequences h n) (consequences_closed h n ok.rising) (λ c i commit. not_among types st ok c i commit n free) refl)

  rollback_moves : (p n : ℕ) → Move st (rollback st p n).1
  rollback_moves p n = moves_unless (owner_fault p (step_of h n)) st (rolled_back_unless_final st n) (λ _. rolled_back_moves n)

  back_moves : (found : Option (List Step)) → Move st (back_to found st).1
  back_moves None = Stays refl
  back_moves (Some []) = Stays refl
  back_moves (Some (s ∷ l)) = rolled_back_moves s.id

  -- so each command
  pub serve_moves : (p : ℕ) (change : Change) → Move st (serve types st p change).1
  serve_moves p (Forward step) = forward_moves p (act_of step)
  serve_moves p (Undo n) = undo_moves p n
  serve_moves p (Rollback n) = rollback_moves p n
  serve_moves p (Back name) = back_moves (since_mark name (steps_of p h))
