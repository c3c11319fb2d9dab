-- Texts of shown sessions.
use Rattle.std.specs.Prelude.{◌≡◌, ℕ, List, Some, slice_get}
use Rattle.std.specs.List.{AllByRecursion}
use Rattle.mps_base.specs.Values.{IsShown}

-- it begins with a brace, and each byte stands for a character that is shown
pub record IsShownText (bytes : List ℕ) : Type 0 where
  pub brace : slice_get bytes 0 ≡ Some 123
  pub shown : AllByRecursion IsShown bytes
