-- The tests for names and variables tell them.
use Rattle.std.proofs.Common.{◌≡◌, ℕ, ◌<◌, Bool, true, false, ◌&&◌, ◌||◌, not, List, [], ◌∷◌, length, nat_le, Option, Some, None, refl, arith}
use Rattle.std.specs.Prelude.{IsTrue, IsSome, IfSome, MatchOption, ◌↔◌, slice_index}
use Rattle.std.specs.List.{AllByRecursion, list_any, list_all}
use Rattle.std.specs.Str.{bytes_eq}
use Rattle.std.proofs.lemmas.Bool.{false_from_ne_true}
use Rattle.std.proofs.lemmas.Bool.Decides.{nat_tests}
use Rattle.std.proofs.lemmas.Slice.Eq.{bytes_eq-Decides}
use Rattle.mps_base.specs.Names.{IsName, IsVariable, IsNoneOf, is_name_byte, is_lower, is_upper, is_variable_byte, reserved_words}
use Rattle.mps_text.specs.Tokens.{first_is}
use Rattle.mps_text.specs.Private.Lexing.{is_small_word, is_name, is_capital_word, is_variable}

pub both_true : (a b : Bool) → (a && b) ≡ true → (a ≡ true) × (b ≡ true)
both_true a b h = grind arith

pub true_both : (a b : Bool) → a ≡ true → b ≡ true → (a && b) ≡ true
true_both a b p q = rw p q

both_false : (a b : Bool) → (a || b) ≡ false → (a ≡ false) × (b ≡ false)
both_false a b h = grind arith

not_true : (b : Bool) → not b ≡ true → b ≡ false
not_true b h = grind arith

each_true : (p : ℕ → Bool) (xs : List ℕ) → list_all p xs ≡ true → AllByRecursion (λ x. IsTrue (p x)) xs
each_true p [] h = tt
each_true p (x ∷ xs) h = let b = both_true (p x) (list_all p xs) h in (b.0, each_true p xs b.1)

true_each : (p : ℕ → Bool) (xs : List ℕ) → AllByRecursion (λ x. IsTrue (p x)) xs → list_all p xs ≡ true
true_each p [] h = refl
true_each p (x ∷ xs) h = true_both (p x) (list_all p xs) h.0 (true_each p xs h.1)

none_of : (bytes : List ℕ) (words : List (List ℕ)) → list_any (bytes_eq bytes) words ≡ false → IsNoneOf words bytes
none_of bytes [] h = tt
none_of bytes (w ∷ ws) h =
    let b = both_false (bytes_eq bytes w) (list_any (bytes_eq bytes) ws) h in
    ((λ e. let same : bytes_eq bytes w ≡ true = (bytes_eq-Decides bytes w).1 e in absurd (cc (b.0))), none_of bytes ws b.1)

of_none : (bytes : List ℕ) (words : List (List ℕ)) → IsNoneOf words bytes → list_any (bytes_eq bytes) words ≡ false
of_none bytes [] h = refl
of_none bytes (w ∷ ws) h = grind (arith, bytes_eq-Decides bytes w, of_none bytes ws h.1)

first_that : (p : ℕ → Bool) (bytes : List ℕ) → first_is p bytes ≡ true → (0 < length bytes) × IsTrue (p (slice_index bytes 0))
first_that p bytes h = grind arith

that_first : (p : ℕ → Bool) (bytes : List ℕ) → 0 < length bytes → IsTrue (p (slice_index bytes 0)) → first_is p bytes ≡ true
that_first p bytes n h = grind arith

pub name_is : (bytes : List ℕ) → is_name bytes ≡ true → IsName bytes
name_is bytes h =
    let a = both_true (nat_le (length bytes) 32 && is_small_word bytes) (not (list_any (bytes_eq bytes) reserved_words)) h in
    let b = both_true (nat_le (length bytes) 32) (is_small_word bytes) a.0 in
    let d = both_true (first_is is_lower bytes) (list_all is_name_byte bytes) b.1 in
    grind (arith, first_that is_lower bytes d.0, nat_tests, each_true is_name_byte bytes d.1, none_of bytes reserved_words (not_true (list_any (bytes_eq bytes) reserved_words) a.1))

pub is_name_of : (bytes : List ℕ) → IsName bytes → is_name bytes ≡ true
is_name_of bytes h = grind (arith, nat_tests, true_both (first_is is_lower bytes) (list_all is_name_byte bytes) (that_first is_lower bytes h.some h.first) (true_each is_name_byte bytes h.each), of_none bytes reserved_words h.free)

-- what reading a name answers
pub name_given : (bytes : List ℕ) (read : Option (List ℕ)) → IsSome read ↔ IsName bytes → IfSome read (λ name. name ≡ bytes) → MatchOption read (is_name bytes ≡ false) (λ name. (is_name bytes ≡ true) × (name ≡ bytes))
name_given bytes (Some name) known same = (is_name_of bytes (known.0 refl), same)
name_given bytes None known same = false_from_ne_true (is_name bytes) (λ e. let found = known.1 (name_is bytes e) in absurd cc)

pub variable_is : (bytes : List ℕ) → is_variable bytes ≡ true → IsVariable bytes
variable_is bytes h =
    let a = both_true (nat_le (length bytes) 32) (is_capital_word bytes) h in
    let d = both_true (first_is is_upper bytes) (list_all is_variable_byte bytes) a.1 in
    grind (arith, first_that is_upper bytes d.0, nat_tests, each_true is_variable_byte bytes d.1)

pub is_variable_of : (bytes : List ℕ) → IsVariable bytes → is_variable bytes ≡ true
is_variable_of bytes h = grind (arith, nat_tests, true_both, true_each)

-- what reading a variable answers
pub variable_given : (bytes : List ℕ) (read : Option (List ℕ)) → IsSome read ↔ IsVariable bytes → IfSome read (λ name. name ≡ bytes) → MatchOption read (is_variable bytes ≡ false) (λ name. (is_variable bytes ≡ true) × (name ≡ bytes))
variable_given bytes read known same = grind (arith, is_variable_of, false_from_ne_true, variable_is)
