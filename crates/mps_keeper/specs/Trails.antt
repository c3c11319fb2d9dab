-- What a keeper is known to have recorded.
use Rattle.std.specs.Prelude.{◌≡◌, ℕ, Bool, true, ⊤, List, [], ◌∷◌, ◌++◌, Option}
use Rattle.mps_room.specs.declared.caller.Caller.{Ghosts}
use Rattle.mps_wire.specs.Answers.{AnswersBrokenOff}
use Rattle.mps_wire.specs.Conversations.{ConversesLine, ConversesBrokenOff}
use Rattle.mps_room.specs.declared.entry.Entry.{Entry}
use Rattle.mps_line.specs.JournalLines.{SpellsJournalLine}
use Rattle.mps_keeper.specs.Books.{Sealed, TookMore, TookSealed, bytes_of}
use Rattle.mps_keeper.specs.Numbering.{CountsUp}

-- each is the line of the number and the entry in its place
abbrev pub SpellEntries : (names : List (List ℕ)) → List (List ℕ) → List (Option ℕ) → List Entry → Type 0
SpellEntries names [] [] [] = ⊤
SpellEntries names (line ∷ lines) (number ∷ numbers) (e ∷ entries) =
    SpellsJournalLine names line e.role number e.command × SpellEntries names lines numbers entries
SpellEntries names lines numbers entries = ⊥

-- what was taken since are the lines of the entries that were made since, in order, each with its seal, with the numbers
-- that lead to the last one
pub record RecordedOn (names : List (List ℕ)) (taken taken' : Option Sealed) (last last' : ℕ)
    (made made' : List Entry) : Type 0 where
  pub lines : List (List ℕ)
  pub numbers : List (Option ℕ)
  pub entries : List Entry
  pub grown : made' ≡ made ++ entries
  pub counted : CountsUp last numbers last'
  pub spelled : SpellEntries names lines numbers entries
  pub took : TookSealed taken lines taken'

-- What was written of a conversation's answers, whose lines may wait or may not, is recorded: it is the answers to the first of its lines (the last may
-- break off), after which nothing was lost; what the keeper took until then are the lines of the entries that were
-- made until then; and it still has them after the conversation.
module _ {R : Type 0} (caller : Ghosts R) (waits : Bool) (taken : R → Option Sealed) (lines : List (List ℕ)) (before : R)
    (written : List ℕ) (after : R) where
  pub record WrittenIsRecorded : Type 0 where
    pub asked : List (List ℕ)
    pub others : List (List ℕ)
    pub first : lines ≡ asked ++ others
    pub reached : R
    pub answered : AnswersBrokenOff (ConversesLine caller waits) (ConversesBrokenOff caller waits) asked before written
        reached
    pub whole : caller.may_tell reached ≡ true
    pub recorded : RecordedOn (caller.names before) (taken before) (taken reached) (caller.last before)
        (caller.last reached) (caller.made before) (caller.made reached)
    pub since : TookMore (bytes_of (taken reached)) (bytes_of (taken after))
