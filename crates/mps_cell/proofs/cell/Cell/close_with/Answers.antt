-- `Cell::close_with` meets its clauses `room` and `holds`, by the lemmas of Dealing.
use Rattle.std.proofs.Common.{subst, sym}
use Rattle.mps_cell.specs.Private.Origins.{opening_in}
use Rattle.mps_cell.specs.Calls.{Known}
use Rattle.mps_cell.specs.Meetings.{HasAllOf}
use Rattle.mps_cell.specs.Cells.{Closes, Opened}
use Rattle.mps_cell.proofs.Dealing.{closed_with}
use Rattle.mps_cell.proofs.cell.Cell.close_with.Goals as goal

pub returns-then-word-eq0-clause-room : goal.returns-then-word-eq0-clause-room
returns-then-word-eq0-clause-room c =
    let s = c.into_seat.result in
    subst (λ (v : Opened). Closes v.opening c.take-room.result) c.self.view_is
    (closed_with (opening_in c.self.inside.table.shared.key) _ s.me s.table_id _ _ _ _ c.into_seat.ensures.free c.close_with-closed.ensures.values.2 c.word-word.ensures c.if-word-eq0.true c.take-room.ensures.value).0

pub returns-then-word-eq0-clause-holds : goal.returns-then-word-eq0-clause-holds
returns-then-word-eq0-clause-holds c =
    let s = c.into_seat.result in
    subst (λ (k : Known). HasAllOf k c.take-room.result.journal) (sym c.into_seat.ensures.known)
    (closed_with (opening_in c.self.inside.table.shared.key) _ s.me s.table_id _ _ _ _ c.into_seat.ensures.free c.close_with-closed.ensures.values.2 c.word-word.ensures c.if-word-eq0.true c.take-room.ensures.value).1
