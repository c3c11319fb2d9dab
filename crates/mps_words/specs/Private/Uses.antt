-- What is said of words that matched a command and still give no order.
use Rattle.std.specs.Prelude.{ℕ, List, codes}

-- what is said of words that lack one
abbrev pub missing : List ℕ
missing = codes "error: a word is missing"
