-- Which refusal an answer is.
use Rattle.std.proofs.Common.{arith, ◌≡◌, ◌≢◌, ℕ, List, Some}
use Rattle.mps_command.specs.declared.answer.Answer.{Answer}
use Rattle.mps_command.specs.declared.answer.Answer.TheVariants.{Refused}
use Rattle.mps_command.specs.declared.answer.Refusal.{Refusal}
use Rattle.mps_command.specs.declared.answer.Refusal.TheVariants.{Violation as Violates}
use Rattle.mps_command.specs.declared.answer.Violation.TheVariants.{Mismatch}
use Rattle.mps_command.specs.declared.command.Change.TheVariants as changes
use Rattle.mps_command.specs.declared.command.Command.{Command}
use Rattle.mps_command.specs.declared.command.Command.TheVariants.{Forward, Undo, Rollback, Back}
use Rattle.mps_local.specs.Local.{LocalType}
use Rattle.mps_fidelity.specs.Fidelity.{AreOfOneProtocol}
use Rattle.mps_fidelity.proofs.Refusals.{sound_other}
use Rattle.mps_machine.specs.Faults.{fault, refusal_in}
use Rattle.mps_machine.specs.Machine.{State, IsSound, serve}

-- the refusal that is told is the one that is answered
pub same_refusal : (a : Answer) (refusal : Refusal) → refusal_in a ≡ Some refusal → a ≡ Refused refusal
same_refusal a refusal e = grind arith

-- in a session of one protocol it is never that of a message of another kind
pub never_a_mismatch : (types : List LocalType) (st : State) (p : ℕ) (command : Command) → IsSound types st → AreOfOneProtocol types → fault types st p command ≢ Some (Violates Mismatch)
never_a_mismatch types st p (Forward step) ok own e = sound_other types st p (changes.Forward step) own ok (same_refusal (serve types st p (changes.Forward step)).0 (Violates Mismatch) e)
never_a_mismatch types st p (Undo n) ok own e = sound_other types st p (changes.Undo n) own ok (same_refusal (serve types st p (changes.Undo n)).0 (Violates Mismatch) e)
never_a_mismatch types st p (Rollback n) ok own e = sound_other types st p (changes.Rollback n) own ok (same_refusal (serve types st p (changes.Rollback n)).0 (Violates Mismatch) e)
never_a_mismatch types st p (Back name) ok own e = sound_other types st p (changes.Back name) own ok (same_refusal (serve types st p (changes.Back name)).0 (Violates Mismatch) e)
never_a_mismatch types st p other ok own e = absurd cc
