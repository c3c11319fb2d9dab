-- Words with a number after them.
use Rattle.std.proofs.Common.{◌≡◌, ◌++◌, ℕ, List, Option, Some, None}
use Rattle.std.specs.Prelude.{IfSome}
use Rattle.mps_base.specs.Numbers.{IsNumberText}
use Rattle.mps_file.specs.Recorders.{IsNumberAfter}

pub after_word : (word rest line : List ℕ) (found : Option ℕ) → line ≡ word ++ rest → IfSome found (IsNumberText rest) → IfSome found (IsNumberAfter word line)
after_word word rest line None e h = tt
after_word word rest line (Some n) e h = record { digits = rest; spelled = e; number = h }
