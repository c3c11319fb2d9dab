-- In each turn of the loop of `read_text` the text is what was read, no more than 65,537 bytes, and no read failed.
use Rattle.std.proofs.Common.{◌≡◌, ◌+◌, ◌-◌, ◌≤◌, length}
use Rattle.std.specs.Io.KnownBytes.{Consumes}
use Rattle.mps_program.proofs.files.read_text.Given as goal

abbrev pub invariant-loop-block : goal.invariant-loop-block
invariant-loop-block g l = record {
  space : 65537 ≤ length l.block.items + length l.text.items;
  most : length l.text.items ≤ 65537;
  calls : g.R.Source.calls l.reader ≤ g.R.Source.calls l.fn.reader + length l.text.items;
  none_failed : g.R.Source.failed_calls l.reader ≡ g.R.Source.failed_calls l.fn.reader;
  bytes : Consumes (g.R.Source.remaining l.fn.reader) (g.R.Source.remaining l.reader) l.text.items;
}

abbrev pub decreases-loop-block : goal.decreases-loop-block
decreases-loop-block g l = 65538 - length l.text.items
