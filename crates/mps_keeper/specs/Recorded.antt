-- Callers whose accepted commands are recorded.
use Rattle.std.specs.Prelude.{◌≡◌, ℕ, Bool, true, false, List, [], ◌∷◌, Option}
use Rattle.mps_command.specs.declared.answer.Answer.{Answer}
use Rattle.mps_command.specs.declared.command.Command.{Command}
use Rattle.mps_room.specs.Journal.{is_accepted}
use Rattle.mps_room.specs.declared.caller.Caller.{Ghosts as CallerGhosts}
use Rattle.mps_keeper.specs.Books.{TookMore, TookSealed, bytes_of}
use Rattle.mps_line.specs.JournalLines.{SpellsJournalLine}
use Rattle.mps_keeper.specs.Numbering.{CountsUp}
use Rattle.mps_keeper.specs.declared.recorder.Recorder.{Ghosts as RecorderGhosts}

module _ {K C : Type 0} (recorder : RecorderGhosts K) (caller : CallerGhosts C) (before : K) (c : C) (command : Command)
    (after : K) (d : C) where
  -- the command's line was added, with its number if it had one
  pub record HasAdded : Type 0 where
    pub number : Option ℕ
    pub numbered : CountsUp (caller.last c) (number ∷ []) (caller.last d)
    pub line : List ℕ
    pub spelled : SpellsJournalLine (caller.names c) line (caller.role c) number command
    pub added : TookSealed (recorder.taken before) (line ∷ []) (recorder.taken after)

  -- nothing was added, and the last number stays
  pub record IsQuiet : Type 0 where
    pub last_stays : caller.last d ≡ caller.last c
    pub nothing : TookSealed (recorder.taken before) [] (recorder.taken after)

  -- what is known by whether the command was accepted
  abbrev pub IsSettled : Bool → Type 0
  IsSettled true = HasAdded
  IsSettled false = IsQuiet

  -- One call of the caller. A recorder that records lines has added the line of what was accepted, unless lines were
  -- lost; after that it takes nothing; what it had it still has; it records where it did; and one that
  -- records none is as before.
  pub record IsRecorded (answer : Answer) : Type 0 where
    pub call : caller.calls c command answer d
    pub same : recorder.records after ≡ recorder.records before
    pub same_place : recorder.place after ≡ recorder.place before
    pub once_whole : recorder.whole after ≡ true → recorder.whole before ≡ true
    pub settled : recorder.records before ≡ true → recorder.whole after ≡ true → IsSettled (is_accepted answer)
    pub over : recorder.whole before ≡ false → TookSealed (recorder.taken before) [] (recorder.taken after)
    pub more : TookMore (bytes_of (recorder.taken before)) (bytes_of (recorder.taken after))
    pub idle : recorder.records before ≡ false → after ≡ before
