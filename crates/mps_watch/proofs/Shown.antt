-- A value has only bytes that are shown.
use Rattle.std.proofs.Common.{◌≡◌, ◌<◌, ℕ, ◌/◌, ◌%◌, List, [], ◌∷◌, ◌++◌, true, refl, arith}
use Rattle.std.specs.Prelude.{All}
use Rattle.std.specs.List.{AllByRecursion, flat_map, list_all}
use Rattle.std.proofs.lemmas.List.Elements.{recursion_from_All}
use Rattle.mps_watch.specs.Values.{digit, is_shown, escaped, quoted}

shown_digit : (d : ℕ) → d < 16 → is_shown (digit d) ≡ true
shown_digit d h = grind arith

shown_one : (b : ℕ) → b < 256 → list_all is_shown (escaped b) ≡ true
shown_one b h = grind (arith, shown_digit (b / 16) (omega arith), shown_digit (b % 16) (omega arith))

shown_rest : (bytes : List ℕ) → AllByRecursion (λ b. b < 256) bytes → list_all is_shown (flat_map escaped bytes ++ 34 ∷ []) ≡ true
shown_rest [] h = refl
shown_rest (b ∷ bs) h = grind (arith, shown_one b h.0, shown_rest bs h.1)

pub shown : (bytes : List ℕ) → All (λ b. b < 256) bytes → list_all is_shown (quoted bytes) ≡ true
shown bytes h = shown_rest bytes (recursion_from_All _ bytes h)
