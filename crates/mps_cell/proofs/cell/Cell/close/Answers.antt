-- `Cell::close` meets its contract, by the lemmas of Dealing.
use Rattle.std.proofs.Common.{subst}
use Rattle.mps_cell.specs.Private.Origins.{opening_in}
use Rattle.mps_cell.specs.Cells.{Closes, Opened}
use Rattle.mps_cell.proofs.Dealing.{closed}
use Rattle.mps_cell.proofs.cell.Cell.close.Goals as goal

pub returns-then-word-eq0 : goal.returns-then-word-eq0
returns-then-word-eq0 c =
    record { room = subst (λ (v : Opened). Closes v.opening c.take-room.result) c.self.view_is (closed (opening_in c.self.inside.table.shared.key) _ _ _ _ c.close-closed.ensures.values.2 c.word-word.ensures c.if-word-eq0.true c.take-room.ensures.value) }
