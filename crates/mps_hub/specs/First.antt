-- The first line of a connection.
use Rattle.std.specs.Prelude.{◌≡◌, ℕ, ◌+◌, ◌≤◌, ◌⊎◌, List, length}
use Rattle.std.specs.Io.KnownBytes.{Consumes, IsAtEnd}
use Rattle.mps_dev.specs.Reads.{max_reads}
use Rattle.mps_dev.specs.declared.traits.Source.{Ghosts}
use Rattle.mps_line.specs.Replies.{SpellsJoin}
use Rattle.mps_lines.specs.Lines.{HasNoBreak, ended, front, max_line}

-- What a reader gave, from the one state of it to the other.
module _ {R : Type 0} (source : Ghosts R) (old new : R) where
  -- the bytes were given one after the other
  abbrev pub GaveBytes : List ℕ → Type 0
  GaveBytes bytes = Consumes (source.remaining old) (source.remaining new) bytes

  -- one more read failed, or one more found the end
  abbrev pub HasStopped : Type 0
  HasStopped = (source.failed_calls new ≡ source.failed_calls old + 1)
      ⊎ ((source.ends new ≡ source.ends old + 1) × IsAtEnd (source.remaining new))

  -- no read failed, and none found the end
  pub record HasGoneOn : Type 0 where
    pub no_failure : source.failed_calls new ≡ source.failed_calls old
    pub no_end : source.ends new ≡ source.ends old

  -- a line and its LF were given, and no byte more, and no read failed or found the end; of the line the front is kept
  pub record IsFirstLine (kept : List ℕ) : Type 0 where
    pub line : List ℕ
    pub gave : GaveBytes (ended line)
    pub unbroken : HasNoBreak line
    pub front_kept : kept ≡ front line
    pub gone_on : HasGoneOn

  -- no LF was given before a read failed, the end came, or there were as many reads as there may be
  pub record HasNoFirstLine : Type 0 where
    pub read : List ℕ
    pub gave : GaveBytes read
    pub unbroken : HasNoBreak read
    pub stopped : HasStopped ⊎ (HasGoneOn × (source.calls new ≡ source.calls old + max_reads))

-- the line joins the session of this number as the role of this name
pub record IsJoin (line : List ℕ) (session : ℕ) (name : List ℕ) : Type 0 where
  pub short : length line ≤ max_line
  pub spelled : SpellsJoin line session name
