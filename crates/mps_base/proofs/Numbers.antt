-- What is written of a number is its one spelling.
use Rattle.std.proofs.Common.{◌≡◌, ℕ, suc, ◌^◌, ◌<◌, List, ◌++◌, length, get_or, sym, ◌∙◌, arith, ℤ, pos, negsuc}
use Rattle.std.specs.Prelude.{FitsSigned, Result, is_ok, OnOk, if◌then◌else◌}
use Rattle.std.specs.Int.{w64}
use Rattle.std.specs.Fmt.{decimal, signed_decimal}
use Rattle.std.specs.Str.Parse.{AllDigits, digits_value}
use Rattle.std.proofs.lemmas.Str.Parse.{IsNumeralModel, numerals_by_value, tells_digits}
use Rattle.std.proofs.lemmas.Fmt.{decimal_is_IsNumeral, decimal_nonempty, decimal_digit, first_decimal, decimal-digits_value}
use Rattle.mps_base.specs.Appends.{AppendsSuch}
use Rattle.mps_base.specs.Numbers.{IsNumberText, IsIntText}

own : IsNumeralModel (AllDigits 10) (digits_value 10)
own = numerals_by_value (AllDigits 10) tells_digits

-- `0` alone begins with a `0`
no_zero_in_front : (n : ℕ) → n < 2 ^ 64 → get_or (decimal n) 0 0 ≡ 48 → length (decimal n) ≡ 1
no_zero_in_front n small e = grind (arith, decimal_digit, first_decimal)

pub decimal_is_number : (n : ℕ) → n < 2 ^ 64 → IsNumberText (decimal n) n
decimal_is_number n small = grind (arith, decimal_nonempty n small, decimal_is_IsNumeral n small, no_zero_in_front n small)

pub number_is_decimal : (bytes : List ℕ) (n : ℕ) → n < 2 ^ 64 → IsNumberText bytes n → bytes ≡ decimal n
number_is_decimal bytes n small h = cc (decimal-digits_value own bytes h.digits h.some h.no_zero_in_front (omega (arith, h.value)))

pub same_number_text : (a b : List ℕ) (n : ℕ) → n < 2 ^ 64 → IsNumberText a n → IsNumberText b n → a ≡ b
same_number_text a b n small p q = number_is_decimal a n small p ∙ sym (number_is_decimal b n small q)

pub signed_is_int : (z : ℤ) → FitsSigned w64 z → IsIntText (signed_decimal z) z
signed_is_int (pos n) fits = grind (arith, decimal_is_number n (omega arith))
signed_is_int (negsuc n) fits = grind (arith, decimal_is_number (suc n) (omega arith))

pub int_is_signed : (bytes : List ℕ) (z : ℤ) → IsIntText bytes z → bytes ≡ signed_decimal z
int_is_signed bytes z h = grind (arith, number_is_decimal)

-- what a call appends that fails or appends a text
pub appends_ok : {T E : Type 0} (P : List ℕ → Type 0) (old new text : List ℕ) (r : Result T E) → new ≡ (if is_ok r then old ++ text else old) → P text → OnOk r (AppendsSuch P old new)
appends_ok P old new text r e p = grind arith
