-- In each turn of the loop of `RestoredRoom::restore_lines` the lines before the rest were called, and accepted.
use Rattle.std.proofs.Common.{◌≡◌, length}
use Rattle.mps_keeper.specs.Restored.{standing_of}
use Rattle.mps_keeper.proofs.Restoring.{Restoring}
use Rattle.mps_keeper.proofs.restored_room.RestoredRoom.restore_lines.Given as goal

abbrev pub invariant-loop-k : goal.invariant-loop-k
invariant-loop-k l = record {
  names : l.self.room.names ≡ l.fn.self.room.names;
  types : l.self.room.types ≡ l.fn.self.room.types;
  restoring : Restoring l.fn.self.room.names l.fn.self.room.types l.fn.first (standing_of l.fn.self) l.bytes l.rest l.chain (standing_of l.self) l.lines l.at;
}

abbrev pub decreases-loop-k : goal.decreases-loop-k
decreases-loop-k l = length l.rest
