-- In each turn of the loop of `read_all` the bytes so far are what the source gave, and each read is counted.
use Rattle.std.proofs.Common.{◌≡◌, ◌+◌, length}
use Rattle.std.specs.Io.KnownBytes.{Consumes}
use Rattle.mps_keeper.specs.declared.restore.TheConstants.{JOURNAL_BLOCK}
use Rattle.mps_keeper.proofs.restore.read_all.Given as goal

abbrev pub invariant-loop : goal.invariant-loop
invariant-loop g l = record {
  space : length l.block.items ≡ JOURNAL_BLOCK;
  reads : g.R.Source.calls l.reader ≡ g.R.Source.calls l.fn.reader + l.counter;
  read : Consumes (g.R.Source.remaining l.fn.reader) (g.R.Source.remaining l.reader) l.all.items;
}
