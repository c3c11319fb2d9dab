-- Rooms, as contracts see them.
use Rattle.std.specs.Prelude.{ℕ, List}
use Rattle.mps_local.specs.Local.{LocalType}
use Rattle.mps_room.specs.declared.entry.Entry.{Entry}

-- a room, as contracts see it: the names and the opening types of the roles, and the journal
pub record RoomState : Type 0 where
  pub names : List (List ℕ)
  pub types : List LocalType
  pub journal : List Entry
