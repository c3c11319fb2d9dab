-- What a clause sees of a hub.
use Rattle.std.specs.Prelude.{◌≡◌, ℕ, ◌+◌, Bool, List, [], Option, None, Some, slice_get, length, All}
use Rattle.mps_local.specs.Local.{LocalType}
use Rattle.mps_machine.specs.Machine.{initial}
use Rattle.mps_session.specs.SessionState.{SessionState}
use Rattle.mps_room.specs.RoomState.{RoomState}
use Rattle.mps_cell.specs.Cells.{Opened, Closes, Dealt, IsDealOf, opened_with}
use Rattle.mps_cell.specs.Openings.{opening_of}
use Rattle.mps_keeper.specs.declared.restored_room.RestoredRoom.{RestoredRoom}

-- the names of the roles, the number of the first session, a cell for each session, whether the passes were given, how
-- many entries of its session each role may make, if that is limited, and whether answers may wait
pub record Hall : Type 0 where
  pub names : List (List ℕ)
  pub first : ℕ
  pub cells : List Opened
  pub given : Bool
  pub share : Option ℕ
  pub waits : Bool

-- there is a room of these names for each session, in order, in which nothing was done yet
pub record AreRoomsOf (names : List (List ℕ)) (sessions : List SessionState) (rooms : List RestoredRoom) : Type 0 where
  pub count : length rooms ≡ length sessions
  pub each : (i : ℕ) (r : RestoredRoom) → slice_get rooms i ≡ Some r
      → (s : SessionState) × (slice_get sessions i ≡ Some s)
      × (r.room ≡ record { names = names; types = s.types; journal = [] })
      × All (λ n. n.newest ≡ None) r.numbers.items

-- nothing was done in the session, and it has as many roles as there are names
abbrev pub IsNew : List (List ℕ) → SessionState → Type 0
IsNew names s = (s.state ≡ initial) × (length names ≡ length s.types)

-- there is a cell for each session, in order, opened with these names, the session's types and its number, which is
-- this one for the first
pub record AreCellsOf (names : List (List ℕ)) (first : ℕ) (sessions : List SessionState) (cells : List Opened)
    : Type 0 where
  pub count : length cells ≡ length sessions
  pub each : (i : ℕ) (o : Opened) → slice_get cells i ≡ Some o
      → (s : SessionState) × (slice_get sessions i ≡ Some s) × (o.opening ≡ opened_with names s.types (first + i))

-- there is a cell around each room, in order, with the room's numbered commands and its number, which is this one for the
-- first
pub record AreCellsAround (first : ℕ) (rooms : List RestoredRoom) (cells : List Opened) : Type 0 where
  pub count : length cells ≡ length rooms
  pub each : (i : ℕ) (o : Opened) → slice_get cells i ≡ Some o
      → (r : RestoredRoom) × (slice_get rooms i ≡ Some r) × (o.opening ≡ opening_of r.room r.numbers.items (first + i))

-- there are so many cells, each opened with these names, these types and its number, which is this one for the first
pub record AreCellsWith (names : List (List ℕ)) (types : List LocalType) (first n : ℕ) (cells : List Opened)
    : Type 0 where
  pub count : length cells ≡ n
  pub each : (i : ℕ) (o : Opened) → slice_get cells i ≡ Some o → o.opening ≡ opened_with names types (first + i)

-- there is a deal for each cell, in order
pub record AreDeals (cells : List Opened) (deals : List Dealt) : Type 0 where
  pub count : length deals ≡ length cells
  pub each : (i : ℕ) (o : Opened) (d : Dealt) → slice_get cells i ≡ Some o → slice_get deals i ≡ Some d
      → IsDealOf o.cell o.opening d

-- what each cell closed with, in order
pub record AreClosed (cells : List Opened) (rooms : List (Option RoomState)) : Type 0 where
  pub count : length rooms ≡ length cells
  pub each : (i : ℕ) (o : Opened) (m : RoomState) → slice_get cells i ≡ Some o → slice_get rooms i ≡ Some (Some m)
      → Closes o.opening m
