-- A key or none as one number: 0 for none, else one more than the key.
use Rattle.std.specs.Prelude.{◌≡◌, ℕ, zero, suc, Option, Some, None}
use Rattle.std.proofs.Common.{ap, refl}
use Rattle.mps_arena.specs.declared.node.Link.TheInside.{Inside}

abbrev pub one_below : ℕ → Option ℕ
one_below zero = None
one_below (suc k) = Some k

abbrev pub one_above : Option ℕ → ℕ
one_above None = zero
one_above (Some k) = suc k

same : (n : ℕ) → one_above (one_below n) ≡ n
same zero = refl
same (suc k) = refl

-- a link gives its number back
pub restored : (l : Inside) → ◌≡◌ {A = Inside} (record { 0 = one_above (one_below l.0) }) l
restored l = ap (λ (n : ℕ). let v : Inside = record { 0 = n } in v) (same l.0)
