-- What each read of a conversation, with the answers to its lines, leads to.
use Rattle.std.specs.Prelude.{ℕ, List, Option, None, Some, Result, Ok, Err, ◌++◌}
use Rattle.std.specs.Io.KnownBytes.{Appends, IsAtEnd}
use Rattle.mps_lines.specs.Lines.{ended}
use Rattle.mps_wire.specs.Answers.{Answering, AnswersBytes, BreaksOffInLast, OfWholeLines}
use Rattle.mps_wire.specs.Endings.{WasAnswered, WasBrokenOff}
use Rattle.mps_wire.specs.Runs.{Going, GaveAtLeast}
use Rattle.mps_wire.specs.Streams.{Streams, Counts, all_went_well, one_read_ended, one_read_failed, one_write_failed}
use Rattle.mps_wire.specs.declared.conversation.Broken.{Broken}
use Rattle.mps_wire.specs.declared.conversation.Broken.TheVariants.{Write, Memory as OutOfMemory, Untold as Unsaid}
use Rattle.mps_wire.specs.declared.conversation.Ending.{Ending}
use Rattle.mps_wire.specs.declared.conversation.Ending.TheVariants.{Closed, ReadFault, WriteFault, Turns, Memory}
use Rattle.mps_wire.specs.declared.conversation.Ending.TheVariants.{Untold}

module _ {S : Type 0} (answers broken : Answering S) (start : S) (first before after : Streams) where
  -- what one read and its answers lead to: it goes on, or it ended; first are the streams before the conversation
  abbrev pub TurnedTo : List ℕ → S → Option Ending → Type 0
  TurnedTo kept st None =
      Going answers start first after kept st × Counts before after all_went_well × GaveAtLeast 1 before after
  TurnedTo kept st (Some Closed) =
      WasAnswered answers start first after st × Counts before after one_read_ended × IsAtEnd after.left
  TurnedTo kept st (Some ReadFault) = WasAnswered answers start first after st × Counts before after one_read_failed
  TurnedTo kept st (Some Turns) = ⊥
  TurnedTo kept st (Some WriteFault) =
      WasBrokenOff answers broken start first after st × Counts before after one_write_failed
  TurnedTo kept st (Some Memory) = WasBrokenOff answers broken start first after st × Counts before after all_went_well
  TurnedTo kept st (Some Untold) = WasBrokenOff answers broken start first after st × Counts before after all_went_well

-- how many writes failed
abbrev pub failed_by : Result Unit Broken → ℕ
failed_by (Ok x) = 0
failed_by (Err Write) = 1
failed_by (Err OutOfMemory) = 0
failed_by (Err Unsaid) = 0

-- one line is answered, and its answer is written: the whole of it
pub record IsWholly {S : Type 0} (answers : Answering S) (line : List ℕ) (c d : S) (taken taken' : Option (List ℕ))
    : Type 0 where
  pub text : List ℕ
  pub line_is : answers line c text d
  pub sent : Appends taken taken' (ended text)

-- or it breaks off
pub record IsBrokenOff {S : Type 0} (broken : Answering S) (line : List ℕ) (c d : S) (taken taken' : Option (List ℕ))
    : Type 0 where
  pub written : List ℕ
  pub line_is : broken line c written d
  pub sent : Appends taken taken' written

-- bytes are taken line by line, and their answers written
abbrev pub TakesOn : {S : Type 0} → Answering S → (bytes kept : List ℕ) → S → Option (List ℕ) → List ℕ → S
    → Option (List ℕ) → Type 0
TakesOn {S} answers bytes kept c taken kept' d taken' =
    (first : S) (before out : List ℕ) → AnswersBytes answers first before kept out c
    → (more : List ℕ) × Appends taken taken' more × AnswersBytes answers first (before ++ bytes) kept' (out ++ more) d

-- the same, where that breaks off
abbrev pub TakesBrokenOff : {S : Type 0} → Answering S → Answering S → (bytes kept : List ℕ) → S → Option (List ℕ) → S
    → Option (List ℕ) → Type 0
TakesBrokenOff {S} answers broken bytes kept c taken d taken' =
    (first : S) (before out : List ℕ) → AnswersBytes answers first before kept out c
    → (more : List ℕ) × Appends taken taken' more
    × OfWholeLines (before ++ bytes) (λ lines. BreaksOffInLast answers first broken lines (out ++ more) d)
