-- In each turn of the loop of `rows_of` there is a row for each deal so far.
use Rattle.std.proofs.Common.{◌≡◌, ◌++◌, length, take}
use Rattle.std.specs.Vec.Iter.{into_iter_items}
use Rattle.mps_hub.proofs.sessions.rows_of.Given as goal

abbrev pub invariant-loop-deal : goal.invariant-loop-deal
invariant-loop-deal l = record {
  whole : l.fn.deals.items ≡ l.yielded ++ into_iter_items l.deal-iterator;
  rows : l.rows.items ≡ take (length l.yielded) l.cells;
  count : length l.rows.items ≡ length l.yielded;
}
