-- In each turn of the loop of `equal_pairs` all passes are of the cell.
use Rattle.std.proofs.Common.{◌≡◌}
use Rattle.std.specs.List.{All}
use Rattle.mps_cell.specs.Calls.{Known}
use Rattle.mps_test_rooms.proofs.cells.equal_pairs.Given as goal

abbrev pub invariant-loop : goal.invariant-loop
invariant-loop l = All (λ (p : Known). p.cell ≡ l.cell.cell) l.all.items
