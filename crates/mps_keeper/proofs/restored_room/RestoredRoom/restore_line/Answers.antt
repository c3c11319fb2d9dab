-- `RestoredRoom::restore_line` meets its clause `faulty`, by the lemmas of Restoring.
use Rattle.std.proofs.Common.{ℕ, List, Err, ap, subst}
use Rattle.mps_keeper.specs.Restored.{standing_of}
use Rattle.mps_keeper.specs.RestoredFaults.{IsBodyFault}
use Rattle.mps_keeper.proofs.Restoring.{faulty_reading}
use Rattle.mps_keeper.proofs.restored_room.RestoredRoom.restore_line.Goals as goal

pub returns-in-Err-clause-faulty : goal.returns-in-Err-clause-faulty
returns-in-Err-clause-faulty c =
    subst (λ (names : List (List ℕ)). IsBodyFault names c.args.self.now.room.types (standing_of c.args.self.now) c.args.line.now c.args.at c.of_reading.result) c.names.ensures.names
    (faulty_reading _ _ _ _ _ _ _ c.of_reading.ensures (λ e. c.in-Err.ensures.bad (ap Err e)))
