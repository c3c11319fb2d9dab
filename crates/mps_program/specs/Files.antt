-- What is read of a source: given is what it had left before, left what it has after.
use Rattle.std.specs.Prelude.{◌≤◌, ℕ, List, Option, length}
use Rattle.std.specs.Io.KnownBytes.{Consumes}

-- how many bytes a protocol's text may have
abbrev pub longest : ℕ
longest = 65536

-- how many of a text are read at most: one more, to tell that it has more
abbrev pub most_read : ℕ
most_read = 65537

-- so many bytes were read, or fewer
pub record HasReadAtMost (most : ℕ) (given left : Option (List ℕ)) : Type 0 where
  pub read : List ℕ
  pub bytes : Consumes given left read
  pub few : length read ≤ most
