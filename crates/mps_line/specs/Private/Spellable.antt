-- What has a spelling.
use Rattle.std.specs.Prelude.{ℕ, List, []}
use Rattle.std.specs.List.{AllByRecursion}
use Rattle.mps_line.specs.Tokens.{Token, SpellsToken}

-- some bytes spell the token, which is no role's name
abbrev pub IsSpellable : Token → Type 0
IsSpellable token = (bytes : List ℕ) × SpellsToken [] bytes token

-- so it is with each of these
abbrev pub AreSpellable : List Token → Type 0
AreSpellable tokens = AllByRecursion IsSpellable tokens
