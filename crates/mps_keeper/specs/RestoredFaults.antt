-- What restoring comes to.
use Rattle.std.specs.Prelude.{◌≡◌, ◌⊎◌, ℕ, ◌+◌, false, List, [], ◌++◌, length, Option, Some}
use Rattle.std.specs.List.{flat_map}
use Rattle.mps_command.specs.declared.command.Command.{Command}
use Rattle.mps_line.specs.declared.read_commands.LineFault.{LineFault}
use Rattle.mps_line.specs.declared.read_commands.LineFault.TheVariants as reading
use Rattle.mps_lines.specs.Lines.{IsSplit, ended}
use Rattle.mps_local.specs.Local.{LocalType}
use Rattle.std.specs.Io.KnownBytes.{Consumes, IsAtEnd}
use Rattle.mps_dev.specs.declared.traits.Source.{Ghosts as SourceGhosts}
use Rattle.mps_line.specs.JournalLines.{SpellsJournalLine}
use Rattle.mps_keeper.specs.Restored.{Standing, LineRefused, LinesRestored}
use Rattle.mps_keeper.specs.Chains.{IsTorn, Reads, ReadsAll, in_front}
use Rattle.mps_keeper.specs.declared.chain.Chain.{Chain}
use Rattle.mps_keeper.specs.declared.restore.Restored.{Restored}
use Rattle.mps_keeper.specs.declared.restore.RestoreFault.{RestoreFault}
use Rattle.mps_keeper.specs.declared.restore.RestoreFault.TheVariants.{Read, Memory, Unreadable, Refused, Changed}

-- why that line can't be read
abbrev pub of_reading : (at : ℕ) → LineFault → RestoreFault
of_reading at reading.Bad = Unreadable at
of_reading at reading.Memory = Memory

-- the line spells no command
abbrev pub IsUnspelled : (names : List (List ℕ)) → List ℕ → Type 0
IsUnspelled names line =
    (role : ℕ) (number : Option ℕ) (command : Command) → SpellsJournalLine names line role number command → ⊥

-- why the command of that line isn't accepted: it was refused so, or memory ran out
abbrev pub IsUncalled : (WasRefused : Type 0) → (at : ℕ) → RestoreFault → Type 0
IsUncalled WasRefused at (Refused line) = (line ≡ at) × WasRefused
IsUncalled WasRefused at Memory = Unit
IsUncalled WasRefused at fault = ⊥

-- a fault of no line
abbrev pub IsNoLine : RestoreFault → Type 0
IsNoLine Read = Unit
IsNoLine Memory = Unit
IsNoLine fault = ⊥

-- more bytes are read, and stand after the others
pub record ReadsMore (left left' : Option (List ℕ)) (all all' : List ℕ) : Type 0 where
  pub more : List ℕ
  pub bytes : Consumes left left' more
  pub added : all' ≡ all ++ more

module _ (names : List (List ℕ)) (types : List LocalType) where
  -- what that line says is at fault; memory may run out at any
  abbrev pub IsBodyFault : Standing → List ℕ → (at : ℕ) → RestoreFault → Type 0
  IsBodyFault before body at (Unreadable number) = (number ≡ at) × IsUnspelled names body
  IsBodyFault before body at fault = IsUncalled (LineRefused names types before body) at fault

  -- that line is at fault: its seal is wrong, or what it says
  abbrev pub IsFaulty : Chain → Standing → List ℕ → (at : ℕ) → RestoreFault → Type 0
  IsFaulty chain before line at (Changed number) =
      (number ≡ at) × ((body : Option (List ℕ)) (after : Chain) → Reads chain line body after → ⊥)
  IsFaulty chain before line at fault =
      (body : List ℕ) × (after : Chain) × Reads chain line (Some body) after × IsBodyFault before body at fault

  -- the line was read, and where it says something that was restored
  pub record IsNextRestored (chain : Chain) (before : Standing) (line : List ℕ) (chain' : Chain) (after : Standing)
      (count : ℕ) : Type 0 where
    pub body : Option (List ℕ)
    pub read : Reads chain line body chain'
    pub counted : count ≡ length (in_front body [])
    pub restored : LinesRestored names types before (in_front body []) after

  module _ (first : List ℕ) (before : Standing) (bytes : List ℕ) where
    -- the lines were read from the seal before the first, and what they say was restored
    pub record AreRestored (lines bodies : List (List ℕ)) (chain : Chain) (after : Standing) : Type 0 where
      pub read : ReadsAll (record { seal = first; is_sealed = false }) lines bodies chain
      pub restored : LinesRestored names types before bodies after

    -- each whole line was restored
    pub record IsRestoredTo (after : Standing) (end : Restored) : Type 0 where
      pub lines : List (List ℕ)
      pub rest : List ℕ
      pub split : IsSplit bytes lines rest
      pub bodies : List (List ℕ)
      pub all : AreRestored lines bodies end.chain after
      pub counted : end.lines ≡ length bodies
      pub sized : end.bytes ≡ length (flat_map ended lines)
      pub torn : IsTorn end.chain rest

    -- the lines before this one were restored, and it was not
    pub record IsFirstFault (fault : RestoreFault) : Type 0 where
      pub lines : List (List ℕ)
      pub line : List ℕ
      pub others : List ℕ
      pub whole : bytes ≡ flat_map ended lines ++ (ended line ++ others)
      pub bodies : List (List ℕ)
      pub chain : Chain
      pub mid : Standing
      pub all : AreRestored lines bodies chain mid
      pub faulty : IsFaulty chain mid line (length lines + 1) fault

    -- each whole line was restored, and what stands after them isn't what a write that broke off may have left
    pub record IsRestFault (fault : RestoreFault) : Type 0 where
      pub lines : List (List ℕ)
      pub rest : List ℕ
      pub split : IsSplit bytes lines rest
      pub bodies : List (List ℕ)
      pub chain : Chain
      pub after : Standing
      pub all : AreRestored lines bodies chain after
      pub not_torn : IsTorn chain rest → ⊥
      pub fault_is : fault ≡ Changed (length lines + 1)

    -- a line is at fault, or the rest
    abbrev pub IsFaultOf : RestoreFault → Type 0
    IsFaultOf fault = IsFirstFault fault ⊎ IsRestFault fault

  module _ {R : Type 0} (source : SourceGhosts R) (first : List ℕ) (before : Standing) (reader reader' : R) where
    -- each whole line of all that the source gave was restored
    pub record RestoredFrom (after : Standing) (end : Restored) : Type 0 where
      pub read : List ℕ
      pub bytes : Consumes (source.remaining reader) (source.remaining reader') read
      pub over : IsAtEnd (source.remaining reader')
      pub restored : IsRestoredTo first before read after end

    -- the first line of all that the source gave that was not
    pub record LineFaultFrom (fault : RestoreFault) : Type 0 where
      pub read : List ℕ
      pub bytes : Consumes (source.remaining reader) (source.remaining reader') read
      pub over : IsAtEnd (source.remaining reader')
      pub fault_of : IsFaultOf first before read fault

    -- why not each was: a read failed, memory ran out, or a line is at fault
    abbrev pub FaultFrom : RestoreFault → Type 0
    FaultFrom Read = Unit
    FaultFrom Memory = Unit
    FaultFrom fault = LineFaultFrom fault
