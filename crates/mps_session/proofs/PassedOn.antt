-- A fault that is passed on.
use Rattle.std.proofs.Common.{arith, ◌≡◌, Result, Err, IsErrAnd}

-- the fault that `?` passes on
pub passed_on : {A E : Type 0} (r : Result A E) (e : E) (P : Result A E → Type 0) → IsErrAnd r (λ x. x ≡ e) → P (Err e) → P r
passed_on r e P is h = grind arith
