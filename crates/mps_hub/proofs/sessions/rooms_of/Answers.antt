-- `rooms_of` keeps what holds in each turn of its loop, by the lemmas of Cells.
use Rattle.std.proofs.Common.{◌≡◌, ℕ, ◌+◌, List, ◌∷◌, [], ◌++◌, length, sym, ap, ◌∙◌, subst, arith, append_assoc, length-append}
use Rattle.std.specs.Vec.Iter.{into_iter_items}
use Rattle.mps_session.specs.SessionState.{SessionState}
use Rattle.mps_keeper.specs.declared.restored_room.RestoredRoom.{RestoredRoom}
use Rattle.mps_hub.specs.Halls.{AreRoomsOf}
use Rattle.mps_hub.proofs.Cells.{rooms_push}
use Rattle.mps_hub.proofs.sessions.rooms_of.Goals as goal

pub loop-session-preserved : goal.loop-session-preserved
loop-session-preserved c =
    let h = c.loop-session.invariant in
    let p = c.push_reserved.ensures in
    let s : SessionState = c.in-Some.session in
    let r : RestoredRoom = c.in_ok-new.field-0 in
    let rest = into_iter_items c.next.new.self in
    let left = c.in-Some.ensures.steps.0 in
    let more : length (into_iter_items c.loop-session.session-iterator) ≡ length rest + 1 = omega (arith, ap (λ (l : List SessionState). length l) left) in
    record {
      whole = h.whole ∙ ap (λ (l : List SessionState). c.loop-session.yielded ++ l) left ∙ sym (append_assoc c.loop-session.yielded (s ∷ []) rest);
      rooms = subst (AreRoomsOf c.args.names.now (c.loop-session.yielded ++ s ∷ [])) (sym p.items) (rooms_push c.args.names.now c.loop-session.yielded c.loop-session.rooms.items s r h.rooms (c.in_ok-new.ensures.room ∙ ap (λ (n : List (List ℕ)). record { names = n; types = s.types; journal = [] }) c.in_ok-copy.ensures) c.in_ok-new.ensures.none);
      space = omega (arith, ap (λ (l : List RestoredRoom). length l) p.items, length-append c.loop-session.rooms.items (r ∷ []), more, h.space, p.capacity);
    }
