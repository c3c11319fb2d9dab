-- `Folder::restore_all` meets its clause `refused` where it fails, and keeps what holds in each turn of its loop, by the lemmas of Causes.
use Rattle.std.proofs.Common.{List, sym, ◌∙◌, subst, arith}
use Rattle.std.specs.Prelude.{All, map}
use Rattle.std.proofs.lemmas.List.Elements.{All-push}
use Rattle.mps_local.specs.Local.{plain}
use Rattle.mps_keeper.specs.declared.restored_room.RestoredRoom.{RestoredRoom}
use Rattle.mps_file.specs.Rooms.{IsRestoredRoom}
use Rattle.mps_program.proofs.Causes.{refused_on}
use Rattle.mps_program.proofs.journals.Folder.restore_all.Goals as goal

pub returns-in_err-room-clause-refused : goal.returns-in_err-room-clause-refused
returns-in_err-room-clause-refused g c = let h = c.loop-place.invariant in refused_on _ _ _ _ _ _ _ h.first h.sessions h.refused c.or_none.ensures.refused

pub returns-in_err-push-clause-refused : goal.returns-in_err-push-clause-refused
returns-in_err-push-clause-refused g c = let h = c.loop-place.invariant in refused_on _ _ _ _ _ _ _ h.first h.sessions h.refused c.or_none.ensures.refused

pub returns-in_err-push-2-clause-refused : goal.returns-in_err-push-2-clause-refused
returns-in_err-push-2-clause-refused g c = let h = c.loop-place.invariant in refused_on _ _ _ _ _ _ _ h.first h.sessions h.refused c.or_none.ensures.refused

pub loop-place-preserved : goal.loop-place-preserved
loop-place-preserved g c =
    let h = c.loop-place.invariant in
    let p = c.in_ok-push.ensures in
    let P : RestoredRoom → Type 0 = IsRestoredRoom c.args.self.now.opening.now.roles (map plain c.args.self.now.opening.now.types.items) in
    record {
      rooms = omega (arith, p.len, h.rooms);
      count = omega (arith, c.in_ok-push-2.ensures.len, h.count);
      first = c.or_none.ensures.first ∙ h.first;
      sessions = c.or_none.ensures.sessions ∙ h.sessions;
      restored = subst (All P) (sym {A = List RestoredRoom} p.items) (All-push P c.loop-place.rooms.items c.in_ok-room.room h.restored c.in_ok-room.ensures.room);
      refused = refused_on _ _ _ _ _ _ _ h.first h.sessions h.refused c.or_none.ensures.refused;
    }
