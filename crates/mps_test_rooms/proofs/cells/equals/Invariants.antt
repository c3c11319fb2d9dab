-- In each turn of the loop of `equals` all passes are of the cell.
use Rattle.std.proofs.Common.{◌≡◌}
use Rattle.std.specs.List.{All}
use Rattle.mps_cell.specs.Calls.{Known}
use Rattle.mps_test_rooms.proofs.cells.equals.Given as goal

abbrev pub invariant-loop-i : goal.invariant-loop-i
invariant-loop-i l = record {
  first : l.first.cell ≡ l.cell.cell;
  others : All (λ (p : Known). p.cell ≡ l.cell.cell) l.others;
}
