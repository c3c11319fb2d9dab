-- How whole numbers are spelled.
use Rattle.std.specs.Prelude.{◌≡◌, ℕ, suc, ◌<◌, ◌^◌, List, ◌∷◌, length, slice_index, ℤ, pos, negsuc}
use Rattle.std.specs.Str.Parse.{AllDigits, digits_value}

-- decimal digits, no `0` in front of others, and n is the number that they stand for
pub record IsNumberText (bytes : List ℕ) (n : ℕ) : Type 0 where
  pub some : 0 < length bytes
  pub digits : AllDigits 10 bytes
  pub no_zero_in_front : slice_index bytes 0 ≡ 48 → length bytes ≡ 1
  pub value : digits_value 10 bytes ≡ n

-- a number from -(2 ^ 63) to 2 ^ 63 - 1: a `-` stands in front of the digits of one below 0, and of no other; negsuc n
-- is -(n + 1)
abbrev pub IsIntText : List ℕ → ℤ → Type 0
IsIntText bytes (pos n) = (n < 2 ^ 63) × IsNumberText bytes n
IsIntText bytes (negsuc n) = (n < 2 ^ 63) × (digits : List ℕ) × (bytes ≡ 45 ∷ digits) × IsNumberText digits (suc n)
