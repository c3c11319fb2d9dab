-- In each turn of the loop of `ScriptRun::feed` the lines before the rest were answered, and of the line that has begun a front of bounded length is kept.
use Rattle.std.proofs.Common.{◌≡◌, ◌≤◌, [], length}
use Rattle.mps_lines.specs.Lines.{most_kept}
use Rattle.mps_wire.specs.Private.Places.{answering_of, place_of_run}
use Rattle.mps_wire.proofs.Feeding.{Feeding}
use Rattle.mps_wire.proofs.script.ScriptRun.feed.Given as goal

abbrev pub invariant-loop-k : goal.invariant-loop-k
invariant-loop-k l = record {
  names : l.self.room.names ≡ l.fn.self.room.names;
  types : l.self.room.types ≡ l.fn.self.room.types;
  short : length l.self.line.items ≤ most_kept;
  feeding : Feeding (answering_of l.fn.self) [] (place_of_run l.fn.self) l.bytes l.rest (place_of_run l.self);
}

abbrev pub decreases-loop-k : goal.decreases-loop-k
decreases-loop-k l = length l.rest
