-- Each value has one spelling.
use Rattle.std.proofs.Common.{arith, ◌≡◌, ◌≢◌, ℕ, Bool, List, [], ◌∷◌, ◌++◌, ℤ}
use Rattle.std.specs.List.{AllByRecursion}
use Rattle.std.specs.Str.Parse.{AllDigits}
use Rattle.std.proofs.lemmas.List.{same_from_push}
use Rattle.std.proofs.lemmas.Str.Parse.{digit_from_value}
use Rattle.mps_base.specs.Numbers.{IsIntText}
use Rattle.mps_base.specs.Texts.{IsText, IsPlainByte}
use Rattle.mps_base.specs.Values.{SpellsValue, IsShown, bool_word, quoted}
use Rattle.mps_base.specs.declared.value.Value.{Value}
use Rattle.mps_base.specs.declared.value.Value.TheVariants.{Int, Bool as BoolValue, Text}
use Rattle.mps_base.proofs.Numbers.{int_is_signed}

-- the same spelling, the same text
pub quoted_same : (a b : List ℕ) → quoted a ≡ quoted b → a ≡ b
quoted_same a b e = grind (arith, same_from_push)

-- bytes that spell no integer, no truth value and no text spell no value
pub no_value : (bytes : List ℕ) → ((z : ℤ) → IsIntText bytes z → ⊥) → ((b : Bool) → bytes ≢ bool_word b) → ((t : List ℕ) → bytes ≡ quoted t → IsText t → ⊥) → (v : Value) → SpellsValue bytes v → ⊥
no_value bytes no_int no_bool no_text (Int z) h = no_int z h
no_value bytes no_int no_bool no_text (BoolValue b) h = no_bool b h
no_value bytes no_int no_bool no_text (Text t) h = no_text t h.0 h.1

pub same_spelling : (a b : List ℕ) (v : Value) → SpellsValue a v → SpellsValue b v → a ≡ b
same_spelling a b v p q = grind (arith, int_is_signed)

-- ---- the bytes of a spelling

shown_append : (xs ys : List ℕ) → AllByRecursion IsShown xs → AllByRecursion IsShown ys → AllByRecursion IsShown (xs ++ ys)
shown_append [] ys p q = q
shown_append (x ∷ xs) ys p q = (p.0, shown_append xs ys p.1 q)

shown_digits : (ds : List ℕ) → AllDigits 10 ds → AllByRecursion IsShown ds
shown_digits [] h = tt
shown_digits (d ∷ ds) h =
    let digit = digit_from_value d h.0 in
    (record { low = omega (arith, digit.0); high = omega (arith, digit.1) }, shown_digits ds h.1)

shown_text : (t : List ℕ) → AllByRecursion IsPlainByte t → AllByRecursion IsShown t
shown_text [] h = tt
shown_text (c ∷ cs) h = (record { low = h.0.low; high = h.0.high }, shown_text cs h.1)

pub shown : (a : List ℕ) (v : Value) → SpellsValue a v → AllByRecursion IsShown a
shown a v h = grind (arith, shown_digits, shown_append, shown_text)
