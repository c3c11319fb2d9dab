-- Rooms in which no line is refused for the message that waits.
use Rattle.std.specs.Prelude.{◌≡◌, ◌≢◌, Some, All}
use Rattle.mps_command.specs.declared.answer.Answer.{Answer}
use Rattle.mps_fidelity.specs.Fidelity.{AreOfOneProtocol, mismatch}
use Rattle.mps_room.specs.Numbers.{kept_of}
use Rattle.mps_room.specs.declared.numbers.Numbers.{Numbers}
use Rattle.mps_embed.specs.Embedded.{EmbeddedState}

-- the role keeps no such answer
abbrev pub KeepsNoMismatch : Numbers → Type 0
KeepsNoMismatch n = (answer : Answer) → kept_of n.newest ≡ Some answer → answer ≢ mismatch

-- the types are of one protocol, and no role keeps such an answer
pub record HasNoMismatch (e : EmbeddedState) : Type 0 where
  pub of_one_protocol : AreOfOneProtocol e.room.types
  pub keep_none : All KeepsNoMismatch e.numbers
