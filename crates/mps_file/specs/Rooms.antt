-- The rooms that sessions begin with.
use Rattle.std.specs.Prelude.{◌≡◌, ℕ, List, [], None, All}
use Rattle.mps_local.specs.Local.{LocalType}
use Rattle.mps_keeper.specs.Restored.{LinesRestored, standing_of}
use Rattle.mps_keeper.specs.declared.restored_room.RestoredRoom.{RestoredRoom}
use Rattle.mps_room.specs.Numbers.{newest_of}
use Rattle.mps_room.specs.declared.numbers.Numbers.{Numbers}

-- a room of these names and types in which nothing was done yet
pub record IsNewRoom (names : List (List ℕ)) (types : List LocalType) (r : RestoredRoom) : Type 0 where
  pub room : r.room ≡ record { names = names; types = types; journal = [] }
  pub none : All (λ n. n.newest ≡ None) r.numbers.items

-- a room of these names and types that some lines lead to, from one in which nothing was done yet
pub record IsRestoredRoom (names : List (List ℕ)) (types : List LocalType) (r : RestoredRoom) : Type 0 where
  pub names_are : r.room.names ≡ names
  pub types_are : r.room.types ≡ types
  pub lines : List (List ℕ)
  pub blank : List Numbers
  pub none : All (λ n. n.newest ≡ None) blank
  pub restored : LinesRestored names types (record { journal = []; newest = newest_of blank }) lines (standing_of r)
