-- In each turn of the loop of `take_later` the seat is of the same cell, and has only waited.
use Rattle.std.proofs.Common.{◌≡◌}
use Rattle.mps_cell.specs.Private.Rule.{Waited}
use Rattle.mps_cell.proofs.turns.take_later.Given as goal

abbrev pub invariant-loop : goal.invariant-loop
invariant-loop g l = record { cell : l.seat.table_id ≡ l.initial.seat.table_id; waited : Waited l.initial.seat.me l.seat.me }
