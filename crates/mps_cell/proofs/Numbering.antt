-- A numbered command of a pass that isn't refused is accepted.
use Rattle.std.proofs.Common.{arith, ◌≡◌, true}
use Rattle.std.specs.Prelude.{IsSome}
use Rattle.mps_command.specs.Changes.{change_of}
use Rattle.mps_command.specs.declared.answer.Answer.{Answer}
use Rattle.mps_command.specs.declared.answer.Answer.TheVariants.{Refused}
use Rattle.mps_command.specs.declared.answer.Refusal.{Refusal}
use Rattle.mps_command.specs.declared.command.Command.{Command}
use Rattle.mps_room.specs.Journal.{is_accepted}
use Rattle.mps_room.proofs.Numbering.{accepts_change}
use Rattle.mps_cell.specs.Calls.{Known, Calls}

pub accepted_call : (k : Known) (c : Command) (a : Answer) (k' : Known) → Calls k c a k' → IsSome (change_of c) → ((refusal : Refusal) → a ≡ Refused refusal → ⊥) → is_accepted a ≡ true
accepted_call k c a k' h some none = grind (arith, accepts_change)
