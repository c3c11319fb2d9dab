-- What a pass is answered in a session of one protocol.
use Rattle.std.proofs.Common.{arith, ◌≢◌}
use Rattle.mps_command.specs.declared.answer.Answer.{Answer}
use Rattle.mps_command.specs.declared.command.Command.{Command}
use Rattle.mps_fidelity.specs.Fidelity.{AreOfOneProtocol}
use Rattle.mps_room.proofs.Faithful.{mismatch, answer_other}
use Rattle.mps_cell.specs.Calls.{Known, Calls}

pub call_other : (k : Known) (c : Command) (a : Answer) (k' : Known) → AreOfOneProtocol k.opening.types → Calls k c a k' → a ≢ mismatch
call_other k c a k' own h = grind (arith, answer_other)
