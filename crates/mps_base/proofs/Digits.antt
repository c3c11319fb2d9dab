-- Digits that are read one by one.
use Rattle.std.proofs.Common.{◌≡◌, ℕ, ◌+◌, ◌*◌, ◌^◌, ◌<◌, ◌≤◌, List, [], ◌∷◌, length, drop, get_or, ap, ◌∙◌, arith}
use Rattle.std.proofs.Math.Nat.{pow-le-pow_right}
use Rattle.std.specs.Char.{digit_value}
use Rattle.std.specs.Str.Parse.{AllDigits, digits_value, digits_value_after}
use Rattle.std.proofs.lemmas.List.{drop_more}

at_least : (n : ℕ) (ds : List ℕ) → n ≤ digits_value_after 10 n ds
at_least n [] = omega arith
at_least n (c ∷ cs) = omega (arith, at_least (n * 10 + digit_value c) cs)

module _ (ds : List ℕ) where
  -- n is what the first i of them stand for, and they are digits
  pub record IsRead (i n : ℕ) : Type 0 where
    pub value : digits_value 10 ds ≡ digits_value_after 10 n (drop i ds)
    pub digits : AllDigits 10 (drop i ds) → AllDigits 10 ds

  module _ (i n : ℕ) (read : IsRead i n) (more : i < length ds) where
    here : digits_value 10 ds ≡ digits_value_after 10 (n * 10 + digit_value (get_or ds i 0)) (drop (i + 1) ds)
    here = read.value ∙ ap (digits_value_after 10 n) (drop_more ds i 0 more)

    pub read_more : digit_value (get_or ds i 0) < 10 → IsRead (i + 1) (n * 10 + digit_value (get_or ds i 0))
    read_more digit = grind (arith, here, drop_more)

    pub so_many : n * 10 + digit_value (get_or ds i 0) ≤ digits_value 10 ds
    so_many = omega (arith, here, at_least (n * 10 + digit_value (get_or ds i 0)) (drop (i + 1) ds))

-- few digits stand for a number that has room for one more
pub few : (i n : ℕ) → i < 19 → n < 10 ^ i → n < 10 ^ 18
few i n less h = omega (arith, h, pow-le-pow_right {n = 10} (omega arith) {i = i} {j = 18} (omega (arith, less)))
