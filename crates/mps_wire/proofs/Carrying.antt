-- What is known of a script's lines, under other names of the same roles and types.
use Rattle.std.proofs.Common.{arith, ◌≡◌, ℕ, List, [], Bool, Result}
use Rattle.mps_local.specs.Local.{LocalType}
use Rattle.mps_room.specs.declared.entry.Entry.{Entry}
use Rattle.mps_wire.specs.Answers.{Answering}
use Rattle.mps_wire.specs.Runs.{Going}
use Rattle.mps_wire.specs.Private.Turns.{Turned}
use Rattle.mps_wire.specs.Script.{AnswersLine}
use Rattle.mps_wire.specs.Streams.{Streams}
use Rattle.mps_wire.specs.declared.script.ReplayFault.{ReplayFault}

pub carried : (names names' : List (List ℕ)) (types types' : List LocalType) → names' ≡ names → types' ≡ types → (P : Answering (List Entry) → Type 0) → P (AnswersLine names' types') → P (AnswersLine names types)
carried names names' types types' same_names same P h = grind arith

-- what a read leads to, from what the run went on from
pub turned : (names names' : List (List ℕ)) (types types' : List LocalType) → names' ≡ names → types' ≡ types → (old now : Streams) (kept kept' : List ℕ) (st st' : List Entry) (r : Result Bool ReplayFault)
    → ((first : Streams) → Going (AnswersLine names' types') [] first old kept st → Turned (AnswersLine names' types') [] first old now kept' st' r)
    → (first : Streams) → Going (AnswersLine names types) [] first old kept st → Turned (AnswersLine names types) [] first old now kept' st' r
turned names names' types types' same_names same old now kept kept' st st' r step = grind (arith, carried)
