-- What a text value may hold.
use Rattle.std.specs.Prelude.{◌≢◌, ℕ, ◌≤◌, List, length}
use Rattle.std.specs.List.{AllByRecursion}

-- a byte that is shown as itself between quotes: from the space to `~`, but no `"` and no `\`
pub record IsPlainByte (c : ℕ) : Type 0 where
  pub low : 32 ≤ c
  pub high : c ≤ 126
  pub no_quote : c ≢ 34
  pub no_backslash : c ≢ 92

-- 0 to 256 plain bytes
pub record IsText (bytes : List ℕ) : Type 0 where
  pub short : length bytes ≤ 256
  pub each : AllByRecursion IsPlainByte bytes
