-- Rooms that files keep.
use Rattle.std.specs.Prelude.{◌≡◌, ◌⊎◌, ℕ, Bool, true, false, ◌&&◌, List, [], None, All, ⊤}
use Rattle.mps_local.specs.Local.{LocalType}
use Rattle.mps_local.specs.declared.merging.Merging.{Merging}
use Rattle.mps_keeper.specs.Restored.{LinesRestored}
use Rattle.mps_room.specs.Numbers.{newest_of}
use Rattle.mps_room.specs.declared.numbers.Numbers.{Numbers}
use Rattle.mps_keeper.specs.declared.restore.RestoreFault.{RestoreFault}
use Rattle.mps_keeper.specs.declared.restore.RestoreFault.TheVariants as lines
use Rattle.mps_line.specs.declared.write_replies.Reply.TheVariants.{NoRole}
use Rattle.mps_open.specs.Choices.{IsChoiceText}
use Rattle.mps_open.specs.Faults.{GivesNoSession, IsTextFault, number_of, place_of}
use Rattle.mps_open.specs.Texts.{AreTypesOf}
use Rattle.mps_open.specs.declared.fault.Fault.TheVariants.{Memory}
use Rattle.mps_text.specs.declared.fault.TextKind.{TextKind}
use Rattle.mps_embed.specs.Embedded.{EmbeddedState}
use Rattle.mps_embed.specs.declared.kept.FileFault.{FileFault}
use Rattle.mps_embed.specs.declared.kept.FileFault.TheVariants.{Room, Elsewhere, Unusable, Line}

-- a room of these names and types that some lines lead to, from one in which nothing was done yet
pub record IsLedRoom (names : List (List ℕ)) (types : List LocalType) (e : EmbeddedState) : Type 0 where
  pub names_are : e.room.names ≡ names
  pub types_are : e.room.types ≡ types
  pub lines : List (List ℕ)
  pub blank : List Numbers
  pub none : All (λ n. n.newest ≡ None) blank
  pub restored :
      LinesRestored names types (record { journal = []; newest = newest_of blank }) lines
      (record { journal = e.room.journal; newest = newest_of e.numbers })

-- lines lead to the room, which is of the protocol that the text spells, by that kind of merging; what it accepts is
-- recorded, and nothing is lost; before its first line the reply is `refused norole`
pub record IsKeptRoomOf (merging : Merging) (text : List ℕ) (e : EmbeddedState) : Type 0 where
  pub names : List (List ℕ)
  pub types : List LocalType
  pub of_text : AreTypesOf merging text names types
  pub led : IsLedRoom names types e
  pub unanswered : e.reply ≡ NoRole
  pub recorded : e.records ≡ true
  pub whole : e.whole ≡ true

-- the number of a line's fault
abbrev pub line_number : RestoreFault → ℕ
line_number (lines.Unreadable line) = 66
line_number (lines.Refused line) = 67
line_number fault = 68

-- the number of a file's fault, after those of a room's
abbrev pub file_number : FileFault → ℕ
file_number (Room fault) = number_of fault
file_number Elsewhere = 64
file_number (Unusable why) = 65
file_number (Line line why) = line_number why

-- where the fault is: for a line its number; which the system's numbers are is not said here
abbrev pub IsFilePlace : FileFault → ℕ → Type 0
IsFilePlace (Room fault) place = place ≡ place_of fault
IsFilePlace Elsewhere place = place ≡ 0
IsFilePlace (Unusable why) place = ⊤
IsFilePlace (Line line why) place = place ≡ line

-- the system refuses something
abbrev pub IsUnusable : FileFault → Type 0
IsUnusable (Unusable why) = ⊤
IsUnusable fault = ⊥

-- what may be the matter with a file, or a lack of memory
abbrev pub IsOfFile : FileFault → Type 0
IsOfFile (Room fault) = fault ≡ Memory
IsOfFile fault = ⊤

-- why a text and a file give no room: the fault of the text, or a lack of memory; or the text has none, and the file does
abbrev pub GivesNoRoom : Merging → List ℕ → FileFault → Type 0
GivesNoRoom merging text (Room fault) = GivesNoSession merging text fault
GivesNoRoom merging text fault =
    (names : List (List ℕ)) × (types : List LocalType) × AreTypesOf merging text names types

-- Nothing is new, but that the room is lost where what was answered couldn't be stored. Where nothing is recorded all is
-- stored; where something was lost before, not.
pub record IsStored (before : EmbeddedState) (stored : Bool) (after : EmbeddedState) : Type 0 where
  pub room : after.room ≡ before.room
  pub numbers : after.numbers ≡ before.numbers
  pub reply : after.reply ≡ before.reply
  pub records : after.records ≡ before.records
  pub taken : after.taken ≡ before.taken
  pub whole : after.whole ≡ (before.whole && stored)
  pub idle : before.records ≡ false → stored ≡ true
  pub lost : before.records ≡ true → before.whole ≡ false → stored ≡ false

-- the words of that choice of the protocol that the text spells; none where the text has a fault
abbrev pub IsChoiceTold : (text : List ℕ) → ℕ → List ℕ → Type 0
IsChoiceTold text number words =
    IsChoiceText text number words ⊎ ((at : ℕ) × (kind : TextKind) × IsTextFault text at kind × (words ≡ []))
