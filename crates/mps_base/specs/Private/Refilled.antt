-- A short word gives its array back.
use Rattle.std.specs.Prelude.{◌≡◌, ℕ, ◌-◌, ◌++◌, List, length, take, replicate}
use Rattle.std.proofs.Common.{ap, ◌∙◌}
use Rattle.mps_base.specs.Private.Inline.{IsKept}
use Rattle.mps_base.specs.declared.inline.Inline.TheInside.{Inside}

pub refilled : (n : Inside) → IsKept n.len n.bytes → ◌≡◌ {A = Inside} (record {
  len = length (take n.len n.bytes);
  bytes = take n.len n.bytes ++ replicate (32 - length (take n.len n.bytes)) 0;
}) n
refilled n h =
    ap (λ (k : ℕ). let v : Inside = record { len = k; bytes = take n.len n.bytes ++ replicate (32 - k) 0 } in v) h.long
    ∙ ap (λ (bs : List ℕ). let v : Inside = record { len = n.len; bytes = bs } in v) h.padded
