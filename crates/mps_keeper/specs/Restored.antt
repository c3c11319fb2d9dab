-- What restoring does to a session.
use Rattle.std.specs.Prelude.{◌≡◌, ◌⊎◌, ℕ, ◌+◌, ⊤, true, false, List, [], ◌∷◌, ◌++◌, Option, None, Some, get_or, slice_set}
use Rattle.mps_command.specs.declared.answer.Answer.{Answer}
use Rattle.mps_command.specs.declared.command.Command.{Command}
use Rattle.mps_line.specs.JournalLines.{SpellsJournalLine}
use Rattle.mps_local.specs.Local.{LocalType}
use Rattle.mps_room.specs.Callers.{entry}
use Rattle.mps_room.specs.Journal.{answer_to, is_accepted, IsEntryAfter}
use Rattle.mps_room.specs.Numbers.{last_of, newest_of}
use Rattle.mps_room.specs.declared.entry.Entry.{Entry}
use Rattle.mps_room.specs.declared.numbers.Numbered.{Numbered}
use Rattle.mps_keeper.specs.declared.restored_room.RestoredRoom.{RestoredRoom}

-- how a session stands: its journal, and each role's newest numbered command that was accepted
pub record Standing : Type 0 where
  pub journal : List Entry
  pub newest : List (Option Numbered)

abbrev pub standing_of : RestoredRoom → Standing
standing_of r = record { journal = r.room.journal; newest = newest_of r.numbers.items }

-- what a role keeps, if it keeps something, is the answer to an accepted command
abbrev pub KeepsAccepted : Option Numbered → Type 0
KeepsAccepted None = ⊤
KeepsAccepted (Some newest) = is_accepted newest.answer ≡ true

-- a command may have this number, or none: it is the one after that of its role's newest
abbrev pub IsNext : Option Numbered → Option ℕ → Type 0
IsNext newest None = ⊤
IsNext newest (Some n) = n ≡ last_of newest + 1

-- each role's newest numbered command, after one of this role was accepted with this number, or none, and this answer
abbrev pub kept_after : List (Option Numbered) → (role : ℕ) → Option ℕ → Answer → List (Option Numbered)
kept_after newest role None answer = newest
kept_after newest role (Some n) answer = slice_set newest role (Some (record { number = n; answer = answer }))

module _ (names : List (List ℕ)) (types : List LocalType) where
  -- the role's command joined the journal, with the answer that it gets after the entries before it; its number, where it
  -- has one, is the role's next, and the role's newest from then on
  pub record IsCalled (before : Standing) (role : ℕ) (number : Option ℕ) (command : Command) (after : Standing)
      : Type 0 where
    pub answer : Answer
    pub follows : IsEntryAfter names types before.journal (entry role command answer)
    pub next : IsNext (get_or before.newest role None) number
    pub joined : after.journal ≡ before.journal ++ entry role command answer ∷ []
    pub kept : after.newest ≡ kept_after before.newest role number answer

  -- the role's command isn't accepted after the entries so far, or its number isn't the role's next
  abbrev pub IsRefused : (before : Standing) → (role : ℕ) → Option ℕ → Command → Type 0
  IsRefused before role number command =
      (is_accepted (answer_to names types before.journal role command) ≡ false)
      ⊎ (IsNext (get_or before.newest role None) number → ⊥)

  -- the line's command was called
  pub record LineRestored (before : Standing) (line : List ℕ) (after : Standing) : Type 0 where
    pub role : ℕ
    pub number : Option ℕ
    pub command : Command
    pub spelled : SpellsJournalLine names line role number command
    pub called : IsCalled before role number command after

  -- so each line's was, in order
  abbrev pub LinesRestored : (before : Standing) → List (List ℕ) → (after : Standing) → Type 0
  LinesRestored before [] after = after ≡ before
  LinesRestored before (line ∷ lines) after =
      (mid : Standing) × LineRestored before line mid × LinesRestored mid lines after

  -- the line's command is refused
  pub record LineRefused (before : Standing) (line : List ℕ) : Type 0 where
    pub role : ℕ
    pub number : Option ℕ
    pub command : Command
    pub spelled : SpellsJournalLine names line role number command
    pub refused : IsRefused before role number command
