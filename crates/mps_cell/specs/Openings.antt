-- How a cell is opened, and the rooms that it may have.
use Rattle.std.specs.Prelude.{ℕ, List, [], Option}
use Rattle.mps_command.specs.declared.answer.Answer.{Answer}
use Rattle.mps_command.specs.declared.command.Command.{Command}
use Rattle.mps_local.specs.Local.{LocalType}
use Rattle.mps_room.specs.Journal.{answer_to, MayAnswer, IsLegal}
use Rattle.mps_room.specs.Numbers.{newest_of}
use Rattle.mps_room.specs.RoomState.{RoomState}
use Rattle.mps_room.specs.declared.entry.Entry.{Entry}
use Rattle.mps_room.specs.declared.numbers.Numbered.{Numbered}
use Rattle.mps_room.specs.declared.numbers.Numbers.{Numbers}

-- what a cell was opened with: the names and the opening types of the roles, the number of its session, the journal that
-- its room had, and each role's newest numbered command that was accepted by then
pub record Opening : Type 0 where
  pub names : List (List ℕ)
  pub types : List LocalType
  pub session : ℕ
  pub begun : List Entry
  pub newest : List (Option Numbered)

-- the opening of a cell around this room, with these numbered commands and this number
abbrev pub opening_of : RoomState → List Numbers → ℕ → Opening
opening_of m numbers n =
    record { names = m.names; types = m.types; session = n; begun = m.journal; newest = newest_of numbers }

-- the room of this opening with this journal
abbrev pub room_of : Opening → List Entry → RoomState
room_of o j = record { names = o.names; types = o.types; journal = j }

-- the journal is legal in a room of this opening
abbrev pub IsLegalIn : Opening → List Entry → Type 0
IsLegalIn o j = IsLegal o.names o.types j

-- the answer to the role's command after the journal
abbrev pub answer_after : Opening → List Entry → ℕ → Command → Answer
answer_after o j role c = answer_to o.names o.types j role c

-- the answer is that one, but memory may run out where it refuses nothing
abbrev pub MayAnswerIn : Opening → List Entry → ℕ → Command → Answer → Type 0
MayAnswerIn o j role c a = MayAnswer a (answer_after o j role c)

-- an opening without roles
abbrev pub no_opening : Opening
no_opening = record { names = []; types = []; session = 0; begun = []; newest = [] }
