-- Changes that are accepted.
use Rattle.std.proofs.Common.{arith, ◌≡◌, ℕ, true, List, Ok}
use Rattle.mps_command.specs.declared.answer.Answer.{Answer}
use Rattle.mps_command.specs.declared.command.Change.{Change}
use Rattle.mps_local.specs.Local.{LocalType}
use Rattle.mps_machine.specs.Answering.{result_of}
use Rattle.mps_machine.specs.Machine.{State, serve}
use Rattle.mps_machine.proofs.Answering.{from_ok}
use Rattle.mps_room.specs.Journal.{is_accepted}

-- an answer to a change that refuses nothing accepts
pub accepting : (types : List LocalType) (st : State) (p : ℕ) (change : Change) (a : Answer) → Ok a ≡ result_of (serve types st p change).0 → is_accepted a ≡ true
accepting types st p change a e = grind (arith, from_ok)
