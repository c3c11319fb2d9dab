-- The seat of a pass, between its steps.
use Rattle.std.specs.Prelude.{◌≡◌, ℕ, ◌+◌, ◌<◌, ◌≤◌, Bool, true, false, List, [], ◌∷◌, ◌++◌, ◌⊎◌, length, Some}
use Rattle.atomic_table.specs.Seated.{TableId}
use Rattle.atomic_table.specs.Table.{Me}
use Rattle.mps_room.specs.RoomState.{RoomState}
use Rattle.mps_room.specs.declared.entry.Entry.{Entry}
use Rattle.mps_cell.specs.Openings.{room_of, IsLegalIn}
use Rattle.mps_cell.specs.Views.{Part, SeatView, part_of, raised, showing}
use Rattle.mps_cell.specs.Rule.{Shows, journal_in, resting}

-- a seat with one part, which has the room
abbrev pub with_room : Part → List Entry → RoomState → Me RoomState SeatView
with_room p j m = (record { parts = p ∷ []; noted = Some j; was_out = false }, (0, m) ∷ [])

-- the seat has one part, and no room
abbrev pub IsResting : Me RoomState SeatView → Type 0
IsResting m = m ≡ resting (part_of m.0.parts) m.0.was_out

-- the seat has one part, and the room
abbrev pub HasRoom : Me RoomState SeatView → Type 0
HasRoom m = let p : Part = part_of m.0.parts in m ≡ with_room p (journal_in m.1) (room_of p.opening (journal_in m.1))

-- the journal stayed, or has one entry of the role more
abbrev pub Grows : ℕ → List Entry → List Entry → Type 0
Grows role k j = (j ≡ k) ⊎ ((e : Entry) × (e.role ≡ role) × (j ≡ k ++ e ∷ []))

-- the seat has one part, and the room with a legal journal: the one that it took, or that with one entry of its role
-- more
pub record HasAnswered (m : Me RoomState SeatView) : Type 0 where
  pub before : List Entry
  pub room : m ≡ with_room (part_of m.0.parts) before (room_of (part_of m.0.parts).opening (journal_in m.1))
  pub grows : Grows (part_of m.0.parts).role before (journal_in m.1)
  pub legal : IsLegalIn (part_of m.0.parts).opening (journal_in m.1)

-- one look and one try took the room
abbrev pub Took : Me RoomState SeatView → Me RoomState SeatView → Type 0
Took m m' =
    let p : Part = part_of m.0.parts in (j : List Entry) × Shows j p
    × (m' ≡ with_room (raised (length j) p) j (room_of p.opening j))

-- or they missed it, and told this length
abbrev pub Missed : Me RoomState SeatView → ℕ → Me RoomState SeatView → Type 0
Missed m found m' =
    let p : Part = part_of m.0.parts in (j : List Entry) × (length j ≡ found) × Shows j p
    × (m' ≡ resting (raised found p) true)

-- any number of looks and tries missed it
abbrev pub Waited : Me RoomState SeatView → Me RoomState SeatView → Type 0
Waited m m' =
    let p : Part = part_of m.0.parts in (f : ℕ) × (b : Bool) × (p.reported ≤ f) × (m' ≡ resting (raised f p) b)

-- the room was given back with this journal
abbrev pub Gave : Me RoomState SeatView → List Entry → Me RoomState SeatView → Type 0
Gave m j m' = m' ≡ resting (showing j (part_of m.0.parts)) false

-- two seats with one part each met, over this journal
abbrev pub Met : Me RoomState SeatView → Me RoomState SeatView → Me RoomState SeatView → Me RoomState SeatView → Type 0
Met m l m' l' = let p : Part = part_of m.0.parts in let q : Part = part_of l.0.parts in
    (j : List Entry) × (b : Bool) × Shows j p × Shows j q × (m' ≡ resting (raised (length j) p) b)
    × (l' ≡ resting (raised (length j) q) false)

-- how the parts of a pass fit: its seat is one of the cell's with one part, which is of the role
pub record IsSeated (seat : TableId) (me : Me RoomState SeatView) (table : TableId) (role seen : ℕ)
    (names : List (List ℕ)) : Type 0 where
  pub cell : seat ≡ table
  pub word : table.words ≡ 1
  pub free : IsResting me
  pub role_is : role ≡ (part_of me.0.parts).role
  pub seen_is : seen ≡ length (part_of me.0.parts).seen
  pub some : role < length (part_of me.0.parts).opening.types
  pub names_are : names ≡ (part_of me.0.parts).opening.names
