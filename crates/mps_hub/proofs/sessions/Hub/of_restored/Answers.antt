-- `Hub::of_restored` keeps what holds in each turn of its loop, by the lemmas of Cells.
use Rattle.std.proofs.Common.{◌≡◌, ℕ, ◌+◌, List, ◌∷◌, [], ◌++◌, length, sym, ap, ◌∙◌, subst, arith, append_assoc, length-append}
use Rattle.std.specs.Vec.Iter.{into_iter_items}
use Rattle.mps_keeper.specs.declared.restored_room.RestoredRoom.{RestoredRoom}
use Rattle.mps_cell.specs.Cells.{Opened, Dealt}
use Rattle.mps_cell.specs.Openings.{opening_of}
use Rattle.mps_hub.specs.Halls.{AreCellsAround, AreDeals}
use Rattle.mps_hub.proofs.Cells.{around_push, deals_push}
use Rattle.mps_hub.proofs.sessions.Hub.of_restored.Goals as goal

pub loop-room-preserved : goal.loop-room-preserved
loop-room-preserved c =
    let h = c.loop-room.invariant in
    let p = c.push_reserved.ensures in
    let q = c.push_reserved-in-loop-room.ensures in
    let r : RestoredRoom = c.in-Some.room in
    let o : Opened = c.in_ok-cell.cell in
    let d : Dealt = c.in_ok-cell.deal in
    let rest = into_iter_items c.next.new.self in
    let left = c.in-Some.ensures.steps.0 in
    let long : c.len-in-loop-room.result ≡ length c.loop-room.cells.items = omega (arith, c.len-in-loop-room.ensures, c.loop-room.cells.ok.0) in
    let more : length (into_iter_items c.loop-room.room-iterator) ≡ length rest + 1 = omega (arith, ap (λ (l : List RestoredRoom). length l) left) in
    let counted = length-append c.loop-room.cells.items (o ∷ []) in
    let dealt = length-append c.loop-room.deals.items (d ∷ []) in
    record {
      whole = h.whole ∙ ap (λ (l : List RestoredRoom). c.loop-room.yielded ++ l) left ∙ sym (append_assoc c.loop-room.yielded (r ∷ []) rest);
      cells = subst (AreCellsAround c.args.first (c.loop-room.yielded ++ r ∷ [])) (sym p.items)
          (around_push c.args.first c.loop-room.yielded c.loop-room.cells.items r o h.cells (c.in_ok-cell.ensures.opening ∙ ap (λ (n : ℕ). opening_of r.room r.numbers.items (c.args.first + n)) long));
      deals = subst (λ (y : List Opened × List Dealt). AreDeals y.0 y.1) (λ j. (sym p.items j, sym q.items j)) (deals_push c.loop-room.cells.items c.loop-room.deals.items o d h.deals c.in_ok-cell.ensures.deal);
      cells_room = omega (arith, ap (λ (l : List Opened). length l) p.items, counted, more, h.cells_room, p.capacity);
      deals_room = omega (arith, ap (λ (l : List Dealt). length l) q.items, dealt, more, h.deals_room, q.capacity);
    }
