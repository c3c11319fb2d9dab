-- The rooms that a server begins with: their names, and what lines led to.
use Rattle.std.proofs.Common.{◌≡◌, ℕ, List, [], ap}
use Rattle.std.specs.Prelude.{All}
use Rattle.mps_local.specs.Local.{LocalType}
use Rattle.mps_keeper.specs.declared.restored_room.RestoredRoom.{RestoredRoom}
use Rattle.mps_room.specs.RoomState.{RoomState}
use Rattle.mps_room.specs.Numbers.{newest_of}
use Rattle.mps_file.specs.Rooms.{IsNewRoom, IsRestoredRoom}

pub new_named : (names : List (List ℕ)) (types : List LocalType) (rooms : List RestoredRoom) → All (IsNewRoom names types) rooms → All (λ (r : RestoredRoom). r.room.names ≡ names) rooms
new_named names types rooms all = λ i d less. ap (λ (m : RoomState). m.names) (all i d less).room

pub restored_named : (names : List (List ℕ)) (types : List LocalType) (rooms : List RestoredRoom) → All (IsRestoredRoom names types) rooms → All (λ (r : RestoredRoom). r.room.names ≡ names) rooms
restored_named names types rooms all = λ i d less. (all i d less).names_are

-- a new room is one that no lines led on
pub new_restored : (names : List (List ℕ)) (types : List LocalType) (room : RestoredRoom) → IsNewRoom names types room → IsRestoredRoom names types room
new_restored names types room new = record {
  names_are = ap (λ (m : RoomState). m.names) new.room;
  types_are = ap (λ (m : RoomState). m.types) new.room;
  lines = [];
  blank = room.numbers.items;
  none = new.none;
  restored = ap (λ (m : RoomState). record { journal = m.journal; newest = newest_of room.numbers.items }) new.room;
}

pub new_rooms_restored : (names : List (List ℕ)) (types : List LocalType) (rooms : List RestoredRoom) → All (IsNewRoom names types) rooms → All (IsRestoredRoom names types) rooms
new_rooms_restored names types rooms all = λ i d less. new_restored names types _ (all i d less)
