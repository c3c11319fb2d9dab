-- In each turn of the loop of `first_line` each read gave one byte of a line that hasn't ended, none failed, and none found the end.
use Rattle.std.proofs.Common.{◌≡◌, ◌+◌}
use Rattle.mps_hub.specs.Private.First.{IsBegun}
use Rattle.mps_hub.proofs.first.first_line.Given as goal

abbrev pub invariant-loop : goal.invariant-loop
invariant-loop g l = record {
  reads : g.R.Source.calls l.reader ≡ g.R.Source.calls l.fn.reader + l.counter;
  failed : g.R.Source.failed_calls l.reader ≡ g.R.Source.failed_calls l.fn.reader;
  ends : g.R.Source.ends l.reader ≡ g.R.Source.ends l.fn.reader;
  begun : IsBegun g.R.Source l.fn.reader l.reader l.line.items;
}
