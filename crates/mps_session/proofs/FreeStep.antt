-- What the machine answers to an undo of a role's own step.
use Rattle.std.proofs.Common.{arith, ◌≡◌, ℕ, true, false, Some, None, Err, ap, ◌∙◌}
use Rattle.std.specs.Prelude.{if◌then◌else◌}
use Rattle.std.proofs.lemmas.Bool.{cond-true, cond-false}
use Rattle.mps_command.specs.declared.answer.Refusal.TheVariants.{Final, Needed}
use Rattle.mps_history.specs.Commits.{is_commit}
use Rattle.mps_history.specs.Dependence.{dependents, least}
use Rattle.mps_history.specs.Steps.{step_of}
use Rattle.mps_machine.specs.Machine.{owner_fault, commit_fault, undone, undo}
use Rattle.mps_machine.proofs.Undoing.{undo_is}
use Rattle.mps_arena.specs.KeyedSteps.{KeyedStep, steps, AreSound}
use Rattle.mps_session.specs.Private.Configurations.{Lists, state_of}
use Rattle.mps_session.proofs.OwnStep as numbered
use Rattle.mps_session.proofs.OwnStep.{key_of}

module _ (c : Lists) (kept : AreSound c.keyed_steps) (p n k : ℕ) (at : key_of c.keyed_steps n ≡ Some k) (own : owner_fault p (step_of (steps c.keyed_steps) n) ≡ None) where
  abbrev pub x : KeyedStep
  x = numbered.keyed c.keyed_steps kept n k at

  fault_is : commit_fault (step_of (steps c.keyed_steps) n) ≡ (if is_commit x.step.act then Some (Final n) else None)
  fault_is =
      ap commit_fault (numbered.step_found c.keyed_steps kept n k at)
      ∙ ap (λ (i : ℕ). if is_commit x.step.act then Some (Final i) else None) (numbered.number c.keyed_steps kept n k at)

  pub committed : is_commit x.step.act ≡ true → undo (state_of c) p n ≡ (Err (Final n), state_of c)
  committed holds = grind (arith, undo_is, fault_is, cond-true)

  module _ (other : is_commit x.step.act ≡ false) where
    pub needed : (by : ℕ) → Some by ≡ least (dependents (steps c.keyed_steps) n) → undo (state_of c) p n ≡ (Err (Needed by), state_of c)
    needed by e = grind (arith, undo_is, fault_is, cond-false)

    pub free : None ≡ least (dependents (steps c.keyed_steps) n) → undo (state_of c) p n ≡ undone (state_of c) n
    free e = grind (arith, undo_is, fault_is, cond-false)
