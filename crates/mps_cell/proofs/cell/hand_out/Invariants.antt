-- In each turn of the loop of `hand_out` each role so far has its pass, and the first seat has the roles that are left.
use Rattle.std.proofs.Common.{◌≡◌, ◌+◌, ◌-◌, ◌≤◌, ◌++◌, [], length, vec_len, vec_capacity}
use Rattle.std.specs.Vec.Iter.{into_iter_items}
use Rattle.mps_cell.specs.Private.Origins.{opening_in}
use Rattle.mps_cell.specs.Views.{dealing}
use Rattle.mps_cell.specs.Cells.{fresh_below}
use Rattle.mps_cell.proofs.cell.hand_out.Given as goal

abbrev pub invariant-loop-own : goal.invariant-loop-own
invariant-loop-own l = record {
  whole : l.fn.numbers.items ≡ l.yielded ++ into_iter_items l.own-iterator;
  same : l.first.table_id ≡ l.shared.table_id;
  rest : l.first.me ≡ (dealing (opening_in l.shared.key) (length l.yielded) (length (opening_in l.shared.key).types - length l.yielded), []);
  dealt : l.all.items ≡ fresh_below l.shared.table_id (opening_in l.shared.key) (length l.yielded);
  counted : vec_len l.all ≡ length l.yielded;
  space : vec_len l.all + length (into_iter_items l.own-iterator) ≤ vec_capacity l.all;
}
