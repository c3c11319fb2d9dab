-- In each turn of the loop of `marks` the pass is of the same cell.
use Rattle.std.proofs.Common.{◌≡◌}
use Rattle.mps_test_rooms.proofs.cells.marks.Given as goal

abbrev pub invariant-loop : goal.invariant-loop
invariant-loop g l = l.pass.cell ≡ l.initial.pass.cell
