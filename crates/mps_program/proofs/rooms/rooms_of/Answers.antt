-- `rooms_of` keeps what holds in each turn of its loop.
use Rattle.std.proofs.Common.{List, sym, subst, arith}
use Rattle.std.specs.Prelude.{All, map}
use Rattle.std.proofs.lemmas.List.Elements.{All-push}
use Rattle.mps_local.specs.Local.{plain}
use Rattle.mps_keeper.specs.declared.restored_room.RestoredRoom.{RestoredRoom}
use Rattle.mps_file.specs.Rooms.{IsNewRoom}
use Rattle.mps_program.proofs.rooms.rooms_of.Goals as goal

pub loop-preserved : goal.loop-preserved
loop-preserved c =
    let h = c.loop.invariant in
    let p = c.push_reserved.ensures in
    let P : RestoredRoom → Type 0 = IsNewRoom c.args.opening.now.roles (map plain c.args.opening.now.types.items) in
    record {
      count = omega (arith, p.len, h.count);
      space = omega (arith, p.capacity, h.space);
      new = subst (All P) (sym {A = List RestoredRoom} p.items) (All-push P c.loop.rooms.items c.in_ok-room_of.field-0 h.new c.in_ok-room_of.ensures);
    }
