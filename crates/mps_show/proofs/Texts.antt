-- Names, words and texts stand in JSON as they are.
use Rattle.std.proofs.Common.{◌≡◌, ℕ, zero, suc, List, [], ◌∷◌, ◌++◌, codes, refl, arith}
use mathlib.Core.Path.{ap₂}
use Rattle.std.specs.Prelude.{IsTrue}
use Rattle.std.specs.List.{AllByRecursion}
use Rattle.std.specs.Str.{IsAscii}
use Rattle.std.proofs.lemmas.Bool.{ne_eqb, le-ltb}
use Rattle.json.specs.Print.{escape, escape_byte}
use Rattle.mps_base.specs.Names.{IsName, is_name_byte}
use Rattle.mps_base.specs.Texts.{IsPlainByte}
use Rattle.mps_base.specs.Values.{IsShown}
use Rattle.mps_base.specs.Sorts.{sort_word}
use Rattle.mps_base.specs.declared.value.Sort.{Sort}
use Rattle.mps_show.proofs.Rows.{all-append}

escape_plain_byte : (c : ℕ) → IsPlainByte c → escape_byte c ≡ c ∷ []
unfolding escape_byte
escape_plain_byte c h =
    rw (ne_eqb c 34 h.no_quote, ne_eqb c 92 h.no_backslash, ne_eqb c 8 (λ e. omega (arith, h.low)), ne_eqb c 12 (λ e. omega (arith, h.low)), ne_eqb c 10 (λ e. omega (arith, h.low)), ne_eqb c 13 (λ e. omega (arith, h.low)), ne_eqb c 9 (λ e. omega (arith, h.low)), le-ltb c 32 h.low) refl

pub escape_plain : (s : List ℕ) → AllByRecursion IsPlainByte s → escape s ≡ s
escape_plain [] h = refl
escape_plain (c ∷ s) h = ap₂ (λ (a b : List ℕ). a ++ b) (escape_plain_byte c h.0) (escape_plain s h.1)

names_bytes : (s : List ℕ) → AllByRecursion (λ c. IsTrue (is_name_byte c)) s → AllByRecursion IsPlainByte s
names_bytes [] h = tt
names_bytes (c ∷ s) h = grind (arith, names_bytes s h.1)

pub name_is_plain : (s : List ℕ) → IsName s → AllByRecursion IsPlainByte s
name_is_plain s h = names_bytes s h.each

-- such bytes stand on one line
pub plain_is_shown : (s : List ℕ) → AllByRecursion IsPlainByte s → AllByRecursion IsShown s
plain_is_shown [] h = tt
plain_is_shown (c ∷ s) h = (record { low = h.0.low; high = h.0.high }, plain_is_shown s h.1)

space_is_plain : IsPlainByte 32
space_is_plain = record { low = omega arith; high = omega arith; no_quote = λ e. omega arith; no_backslash = λ e. omega arith }

pub sort_is_plain : (s : Sort) → AllByRecursion IsPlainByte (sort_word s)
sort_is_plain s = grind arith

-- a word in front of plain ones
pub in_front : (word words : List ℕ) → AllByRecursion IsPlainByte word → AllByRecursion IsPlainByte words → AllByRecursion IsPlainByte (word ++ 32 ∷ words)
in_front word words h hs = all-append IsPlainByte word (32 ∷ words) h (space_is_plain, hs)

-- a word in front of plain ones that stand after spaces
pub one_behind : (word rest : List ℕ) → IsName word → AllByRecursion IsPlainByte rest → AllByRecursion IsPlainByte (32 ∷ (word ++ rest))
one_behind word rest h hs = (space_is_plain, all-append IsPlainByte word rest (name_is_plain word h) hs)

-- such bytes are below 128
pub plain_is_ascii : (s : List ℕ) → AllByRecursion IsPlainByte s → IsAscii s
plain_is_ascii [] h i = omega arith
plain_is_ascii (c ∷ s) h zero = omega (arith, h.0.high)
plain_is_ascii (c ∷ s) h (suc i) = plain_is_ascii s h.1 i

-- the words of a step stand as they are
pub words_stand : (escape (codes "send") ≡ codes "send") × (escape (codes "choose") ≡ codes "choose") × (escape (codes "recv") ≡ codes "recv") × (escape (codes "pick") ≡ codes "pick") × (escape (codes "mark") ≡ codes "mark") × (escape (codes "commit") ≡ codes "commit")
unfolding escape_byte
words_stand = (refl, refl, refl, refl, refl, refl)
