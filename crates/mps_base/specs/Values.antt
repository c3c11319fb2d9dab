-- How values are spelled.
use Rattle.std.specs.Prelude.{◌≡◌, ℕ, ◌≤◌, List, [], ◌∷◌, ◌++◌, codes, Bool, true, false}
use Rattle.mps_base.specs.Numbers.{IsIntText}
use Rattle.mps_base.specs.Texts.{IsText}
use Rattle.mps_base.specs.declared.value.Value.{Value}
use Rattle.mps_base.specs.declared.value.Value.TheVariants.{Int, Bool as BoolValue, Text}

-- bytes between quotes
abbrev pub quoted : List ℕ → List ℕ
quoted bytes = 34 ∷ bytes ++ 34 ∷ []

-- the word for a truth value
abbrev pub bool_word : Bool → List ℕ
bool_word true = codes "true"
bool_word false = codes "false"

-- a byte from the space to `~`: no line breaks and no controls
pub record IsShown (c : ℕ) : Type 0 where
  pub low : 32 ≤ c
  pub high : c ≤ 126

-- these bytes are the spelling of that value
abbrev pub SpellsValue : List ℕ → Value → Type 0
SpellsValue bytes (Int z) = IsIntText bytes z
SpellsValue bytes (BoolValue b) = bytes ≡ bool_word b
SpellsValue bytes (Text t) = (bytes ≡ quoted t) × IsText t
