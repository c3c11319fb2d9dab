-- What is said of words that give no order.
use Rattle.std.specs.Prelude.{◌≡◌, ⊤, ℕ, List, codes, string_bytes}
use Rattle.mps_words.specs.declared.faults.UseFault.{UseFault}
use Rattle.mps_words.specs.declared.faults.UseFault.TheVariants.{Usage, Memory}

-- this is said, or memory ran out
abbrev pub Says : List ℕ → UseFault → Type 0
Says what (Usage text) = string_bytes text ≡ what
Says what Memory = ⊤

-- what is said of words of which one is no text
abbrev pub no_text : List ℕ
no_text = codes "error: a word is not UTF-8"
