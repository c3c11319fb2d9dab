-- A new room that lines led on.
use Rattle.std.proofs.Common.{◌≡◌, ℕ, List, Result, Ok, Err, ap, subst, ◌∙◌}
use Rattle.std.specs.Prelude.{IfOk, OnOk}
use Rattle.mps_local.specs.Local.{LocalType}
use Rattle.mps_keeper.specs.Restored.{LinesRestored, standing_of}
use Rattle.mps_keeper.specs.declared.restored_room.RestoredRoom.{RestoredRoom}
use Rattle.mps_room.specs.Numbers.{newest_of}
use Rattle.mps_room.specs.RoomState.{RoomState}
use Rattle.mps_file.specs.Rooms.{IsNewRoom, IsRestoredRoom}

pub restored_room : (names : List (List ℕ)) (types : List LocalType) (room after : RestoredRoom) (lines : List (List ℕ)) → IsNewRoom names types room → after.room.names ≡ room.room.names → after.room.types ≡ room.room.types → LinesRestored room.room.names room.room.types (standing_of room) lines (standing_of after)
    → IsRestoredRoom names types after
restored_room names types room after lines new same same' h = record {
  names_are = same ∙ ap (λ (m : RoomState). m.names) new.room;
  types_are = same' ∙ ap (λ (m : RoomState). m.types) new.room;
  lines = lines;
  blank = room.numbers.items;
  none = new.none;
  restored = subst (λ (m : RoomState). LinesRestored m.names m.types (record { journal = m.journal; newest = newest_of room.numbers.items }) lines (standing_of after)) new.room h;
}

-- what holds of a result that is there
pub on_ok : {T E : Type 0} (done : Result T E) (P : T → Type 0) (Q : Type 0) → IfOk done P → ((x : T) → P x → Q) → OnOk done Q
on_ok (Ok x) P Q h leads = leads x h
on_ok (Err why) P Q h leads = tt
