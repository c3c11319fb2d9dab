-- What a seat of the table knows. It exists in clauses alone: no value of the program has it.
use Rattle.std.specs.Prelude.{ℕ, zero, suc, ◌+◌, ◌/◌, Bool, false, List, [], ◌∷◌, ◌++◌, Option, None, Some, length, map}
use Rattle.mps_room.specs.Callers.{entries_of}
use Rattle.mps_room.specs.declared.entry.Entry.{Entry}
use Rattle.mps_cell.specs.Openings.{Opening, no_opening}

-- what is known for one role: how its cell was opened; the journal that its last call showed (`seen`); the greatest
-- length of the journal that was reported to it (`reported`); and the entries that it made
pub record Part : Type 0 where
  pub opening : Opening
  pub role : ℕ
  pub seen : List Entry
  pub reported : ℕ
  pub made : List Entry

-- a part for each role that rests on the seat; the journal with which the seat took the room, while it has the room
-- (`noted`); and whether its last look or try found the room out (`was_out`)
pub record SeatView : Type 0 where
  pub parts : List Part
  pub noted : Option (List Entry)
  pub was_out : Bool

-- what is known for a role at first: the journal with which the cell was opened
abbrev pub fresh_part : Opening → ℕ → Part
fresh_part o role =
    record { opening = o; role = role; seen = o.begun; reported = length o.begun; made = entries_of role o.begun }

-- the same for so many roles, from this one on
abbrev pub fresh_parts : Opening → ℕ → ℕ → List Part
fresh_parts o role zero = []
fresh_parts o role (suc n) = fresh_part o role ∷ fresh_parts o (role + 1) n

-- a seat on which so many roles rest, from this one on
abbrev pub dealing : Opening → ℕ → ℕ → SeatView
dealing o role n = record { parts = fresh_parts o role n; noted = None; was_out = false }

-- the first seat of a cell, on which all roles rest
abbrev pub first_view : Opening → SeatView
first_view o = dealing o 0 (length o.types)

-- the first part, which is the only one of a pass's seat
abbrev pub part_of : List Part → Part
part_of [] = fresh_part no_opening 0
part_of (p ∷ ps) = p

-- the part, when it was told of a journal of this length
abbrev pub raised : ℕ → Part → Part
raised n p = record p { reported = n }

-- the part, when its call showed this journal
abbrev pub showing : List Entry → Part → Part
showing j p = record p { seen = j; reported = length j; made = entries_of p.role j }

-- the seat, when it found this word
abbrev pub looked : ℕ → Bool → SeatView → SeatView
looked word b v = record v { parts = map (raised (word / 2)) v.parts; was_out = b }

-- the seat, when it took the room with this journal
abbrev pub took : List Entry → SeatView → SeatView
took j v = record v { noted = Some j; was_out = false }

-- the seat, when it gave the room back with this journal
abbrev pub gave : List Entry → SeatView → SeatView
gave j v = record v { parts = map (showing j) v.parts; noted = None }

abbrev pub without_first_part : List Part → List Part
without_first_part [] = []
without_first_part (p ∷ ps) = ps

abbrev pub first_part_alone : List Part → List Part
first_part_alone [] = []
first_part_alone (p ∷ ps) = p ∷ []

-- the first part goes to a new seat: what stays, and what goes
abbrev pub without_first : SeatView → SeatView
without_first v = record v { parts = without_first_part v.parts }

abbrev pub first_alone : SeatView → SeatView
first_alone v = record { parts = first_part_alone v.parts; noted = None; was_out = false }

-- the parts of a second seat go to the first: what that has then
abbrev pub both_parts : SeatView → SeatView → SeatView
both_parts v w = record v { parts = v.parts ++ w.parts }

-- what is left of a seat whose parts went to another
abbrev pub spent : SeatView
spent = record { parts = []; noted = None; was_out = false }

-- all parts but the first go to a new seat: what stays, and what goes
abbrev pub first_stays : SeatView → SeatView
first_stays v = record v { parts = first_part_alone v.parts }

abbrev pub others_go : SeatView → SeatView
others_go v = record { parts = without_first_part v.parts; noted = None; was_out = false }
