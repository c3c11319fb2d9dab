-- What has a spelling.
use Rattle.std.proofs.Common.{ℕ, ◌<◌, ◌^◌, ℤ, Bool, List, [], ◌∷◌, refl}
use Rattle.std.specs.Prelude.{map, FitsSigned}
use Rattle.std.specs.Fmt.{decimal, signed_decimal}
use Rattle.std.specs.Int.{w64}
use Rattle.std.specs.List.{AllByRecursion}
use Rattle.mps_base.specs.Names.{IsName}
use Rattle.mps_base.specs.Spaced.{spaced}
use Rattle.mps_base.specs.Texts.{IsText}
use Rattle.mps_base.specs.Values.{quoted, bool_word}
use Rattle.mps_base.specs.declared.value.Value.TheVariants as values
use Rattle.mps_base.proofs.Numbers.{decimal_is_number, signed_is_int}
use Rattle.mps_line.specs.Private.Spellable.{IsSpellable, AreSpellable}
use Rattle.mps_line.specs.Tokens.{Token, Word, Called, Number, Worth, SpellsLine, SpellEach}

-- tokens that have spellings have a line
pub line : (tokens : List Token) → AreSpellable tokens → (bytes : List ℕ) × SpellsLine [] bytes tokens
line tokens h = let all = each tokens h in (spaced all.0, record { spellings = all.0; joined = refl; each = all.1 })
  where
    each : (tokens : List Token) → AreSpellable tokens → (spellings : List (List ℕ)) × SpellEach [] spellings tokens
    each [] h = ([], tt)
    each (token ∷ tokens) h = let others = each tokens h.1 in (h.0.0 ∷ others.0, (h.0.1, others.1))

pub word : (letters : List ℕ) → IsSpellable (Word letters)
word letters = (letters, refl)

pub number : (n : ℕ) → n < 2 ^ 64 → IsSpellable (Number n)
number n small = (decimal n, record { small = small; number = decimal_is_number n small })

pub numbers : (ids : List ℕ) → AllByRecursion (λ n. n < 2 ^ 64) ids → AreSpellable (map Number ids)
numbers [] h = tt
numbers (n ∷ ids) h = (number n h.0, numbers ids h.1)

pub called : (name : List ℕ) → IsName name → IsSpellable (Called name)
called name is = (name, record { is = refl; allowed = is })

pub int : (z : ℤ) → FitsSigned w64 z → IsSpellable (Worth (values.Int z))
int z fits = (signed_decimal z, signed_is_int z fits)

pub truth : (b : Bool) → IsSpellable (Worth (values.Bool b))
truth b = (bool_word b, refl)

pub text : (bytes : List ℕ) → IsText bytes → IsSpellable (Worth (values.Text bytes))
text bytes is = (quoted bytes, (refl, is))
