-- `close_all` keeps what holds in each turn of its loop, by the lemmas of Cells.
use Rattle.std.proofs.Common.{◌≡◌, ◌+◌, List, ◌∷◌, [], ◌++◌, Option, length, sym, ap, ◌∙◌, subst, arith, append_assoc, length-append}
use Rattle.std.specs.Vec.Iter.{into_iter_items}
use Rattle.mps_room.specs.RoomState.{RoomState}
use Rattle.mps_cell.specs.Cells.{Opened}
use Rattle.mps_hub.specs.Halls.{AreClosed}
use Rattle.mps_hub.proofs.Cells.{closed_push, closed_where}
use Rattle.mps_hub.proofs.sessions.close_all.Goals as goal

pub loop-cell-preserved : goal.loop-cell-preserved
loop-cell-preserved c =
    let h = c.loop-cell.invariant in
    let p = c.push_reserved.ensures in
    let o : Opened = c.in-Some.cell in
    let r : Option RoomState = c.close.result in
    let rest = into_iter_items c.next.new.self in
    let left = c.in-Some.ensures.steps.0 in
    let more : length (into_iter_items c.loop-cell.cell-iterator) ≡ length rest + 1 = omega (arith, ap (λ (l : List Opened). length l) left) in
    record {
      whole = h.whole ∙ ap (λ (l : List Opened). c.loop-cell.yielded ++ l) left ∙ sym (append_assoc c.loop-cell.yielded (o ∷ []) rest);
      closed = subst (AreClosed (c.loop-cell.yielded ++ o ∷ [])) (sym p.items) (closed_push c.loop-cell.yielded c.loop-cell.rooms.items o r h.closed (closed_where o r c.close.ensures.room));
      space = omega (arith, ap (λ (l : List (Option RoomState)). length l) p.items, length-append c.loop-cell.rooms.items (r ∷ []), more, h.space, p.capacity);
    }
