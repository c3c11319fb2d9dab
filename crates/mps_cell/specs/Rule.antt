-- The rule of a cell's table, and what each step tells the seat that takes it.
use Rattle.std.specs.Prelude.{◌≡◌, ◌≢◌, ℕ, ◌+◌, ◌*◌, ◌/◌, ◌%◌, ◌<◌, ◌≤◌, ◌==◌, Bool, List, [], ◌∷◌, ◌++◌, length}
use Rattle.std.specs.Prelude.{if◌then◌else◌, Option, Some, None, ◌⊎◌}
use mathlib.Core.Option as maybe
use lib.ListN.{get_elem?}
use Rattle.atomic_table.specs.Table.{State, Me, Step, rest}
use Rattle.mps_room.specs.Callers.{entries_of}
use Rattle.mps_room.specs.RoomState.{RoomState}
use Rattle.mps_room.specs.declared.entry.Entry.{Entry}
use Rattle.mps_cell.specs.Openings.{Opening, room_of, IsLegalIn}
use Rattle.mps_cell.specs.Views.{Part, SeatView, part_of, looked, took, gave}

-- ---- the rule

-- the journal begins with what was seen
abbrev pub StartsWith : List Entry → List Entry → Type 0
StartsWith j seen = (later : List Entry) × (j ≡ seen ++ later)

-- what a part says is true of the journal
pub record Shows (j : List Entry) (p : Part) : Type 0 where
  pub legal : IsLegalIn p.opening j
  pub begins : StartsWith j p.seen
  pub reached : p.reported ≤ length j
  pub own : entries_of p.role j ≡ p.made
  pub all_seen : entries_of p.role p.seen ≡ p.made

abbrev pub AllShow : List Entry → List Part → Type 0
AllShow j [] = Unit {0}
AllShow j (p ∷ ps) = Shows j p × AllShow j ps

-- each part is of another role than this one
abbrev pub AllOther : ℕ → List Part → Type 0
AllOther role [] = Unit {0}
AllOther role (p ∷ ps) = (p.role ≢ role) × AllOther role ps

-- no role has two parts
abbrev pub AllApart : List Part → Type 0
AllApart [] = Unit {0}
AllApart (p ∷ ps) = AllOther p.role ps × AllApart ps

-- each part is of this opening, and its role rests on this seat alone
abbrev pub AllHere : Opening → (ℕ → ℕ) → ℕ → List Part → Type 0
AllHere o owner seat [] = Unit {0}
AllHere o owner seat (p ∷ ps) = ((p.opening ≡ o) × (owner p.role ≡ seat)) × AllHere o owner seat ps

-- one of the parts is of this role
abbrev pub HasRole : ℕ → List Part → Type 0
HasRole role [] = ⊥
HasRole role (p ∷ ps) = (p.role ≡ role) ⊎ HasRole role ps

-- the role rests on this seat
pub record RestsOn (views : List SeatView) (role seat : ℕ) : Type 0 where
  pub view : SeatView
  pub there : get_elem? views seat ≡ maybe.some view
  pub has : HasRole role view.parts

-- the journal that a seat notes, where the room is out with this seat, or with none
abbrev pub noted_by : Option ℕ → ℕ → List Entry → Option (List Entry)
noted_by None seat j = None
noted_by (Some t) seat j = if t == seat then Some j else None

-- what holds of a seat, by the journal, the seat that has the room out, and the seat of each role
pub record Rests (o : Opening) (j : List Entry) (away : Option ℕ) (owner : ℕ → ℕ) (seat : ℕ) (v : SeatView)
    : Type 0 where
  pub shows : AllShow j v.parts
  pub here : AllHere o owner seat v.parts
  pub apart : AllApart v.parts
  pub noted : v.noted ≡ noted_by away seat j

-- the word: twice the journal's length, and one more while the room is out
abbrev pub word_of : Option ℕ → List Entry → ℕ
word_of None j = 2 * length j
word_of (Some t) j = 2 * length j + 1

-- the room, where it is at home
abbrev pub home_of : Opening → Option ℕ → List Entry → maybe.Option RoomState
home_of o None j = maybe.some (room_of o j)
home_of o (Some t) j = maybe.none

-- There is one legal journal, which begins with that of the opening. At twice its length the room is at home with it, and no seat notes a journal. At one
-- more the room is out, and one seat alone notes it. What each seat knows is true of it. Each role rests on one seat,
-- and on no other
pub record IsJournaled (o : Opening) (s : State RoomState SeatView) : Type 0 where
  pub journal : List Entry
  pub away : Option ℕ
  pub owner : ℕ → ℕ
  pub legal : IsLegalIn o journal
  pub begins : StartsWith journal o.begun
  pub words : s.words ≡ word_of away journal ∷ []
  pub homes : s.homes ≡ home_of o away journal ∷ []
  pub placed : (t : ℕ) → away ≡ Some t → t < length s.views
  pub seats : (seat : ℕ) (v : SeatView) → get_elem? s.views seat ≡ maybe.some v → Rests o journal away owner seat v
  pub rests : (role : ℕ) → role < length o.types → RestsOn s.views role (owner role)

-- ---- steps

-- some legal journal has the length that the word showed, and what the seat knows is true of it
abbrev pub ShowsLength : SeatView → ℕ → List Entry → Type 0
ShowsLength v word j = (length j ≡ word / 2) × AllShow j v.parts × AllApart v.parts

-- a look tells the length, and whether the room is out
abbrev pub Looks : Step RoomState → Me RoomState SeatView → ℕ → Me RoomState SeatView → Type 0
Looks st m r m' = ((j : List Entry) × ShowsLength m.0 r j) × (m' ≡ (looked r (r % 2 == 1) m.0, m.1))

-- a try that wins takes the room; one that fails tells that the room was out, or that another call came between, only
-- where it expected twice the reported
abbrev pub Tries : Step RoomState → Me RoomState SeatView → ℕ → Me RoomState SeatView → Type 0
Tries st m r m' =
    (r ≡ st.first
    → (j : List Entry) × ShowsLength m.0 r j × (m' ≡ (took j m.0, (0, room_of (part_of m.0.parts).opening j) ∷ m.1)))
    × (r ≢ st.first
    → ((j : List Entry) × ShowsLength m.0 r j)
    × (m' ≡ (looked r (st.first == 2 * (part_of m.0.parts).reported) m.0, m.1)))

-- the journal of the room that the seat has
abbrev pub journal_in : List (ℕ × RoomState) → List Entry
journal_in [] = []
journal_in (x ∷ xs) = x.1.journal

-- a give back shows the journal that the room has by then
abbrev pub Gives : Step RoomState → Me RoomState SeatView → ℕ → Me RoomState SeatView → Type 0
Gives st m r m' = m' ≡ (gave (journal_in m.1) m.0, rest m.1)

-- ---- the seat of a pass

-- a seat with one part
abbrev pub resting : Part → Bool → Me RoomState SeatView
resting p b = (record { parts = p ∷ []; noted = None; was_out = b }, [])
