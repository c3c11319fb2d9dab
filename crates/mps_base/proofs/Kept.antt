-- How a short word is put into its array.
use Rattle.std.proofs.Common.{arith, ◌≡◌, ℕ, ◌-◌, ◌≤◌, List, ◌++◌, length, drop, replicate, ap, ◌∙◌}
use Rattle.std.proofs.lemmas.List.{take_at, drop-replicate}
use Rattle.mps_base.specs.Private.Inline.{IsKept}

-- a word written over the front of 32 zeros is kept there
pub kept : (bytes array : List ℕ) → length bytes ≤ 32 → array ≡ bytes ++ drop (length bytes) (replicate 32 0) → IsKept (length bytes) array
kept bytes array h e =
    let rest = drop-replicate (length bytes) 32 0 in
    let whole : array ≡ bytes ++ replicate (32 - length bytes) 0 = e ∙ ap (λ (r : List ℕ). bytes ++ r) rest in
    grind (arith, take_at)
