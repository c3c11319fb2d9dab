-- Why a server stops.
use Rattle.std.proofs.Common.{ℕ, Bool, false, Ok, Err, Result, IfErr, arith}
use Rattle.mps_hub.specs.Serving.{IsServeFaultOf}
use Rattle.mps_hub.specs.declared.server.ServeFault.{ServeFault}
use Rattle.mps_hub.specs.declared.server.ServeFault.TheVariants.{Accept, Memory, NoneLeft, Unrecorded}

one_of : (strict : Bool) (first n : ℕ) (fault : ServeFault) → IsServeFaultOf false 0 0 fault → IsServeFaultOf strict first n fault
one_of strict first n Accept h = tt
one_of strict first n Memory h = tt
one_of strict first n (Unrecorded session) h = absurd (omega (arith, h.1.0, h.1.1))
one_of strict first n NoneLeft h = absurd (omega (arith, h))

-- what stops a server of which nothing is recorded may stop any
pub more_recorded : {A : Type 0} (strict : Bool) (first n : ℕ) (r : Result A ServeFault) → IfErr r (IsServeFaultOf false 0 0) → IfErr r (IsServeFaultOf strict first n)
more_recorded strict first n (Ok x) h = tt
more_recorded strict first n (Err fault) h = one_of strict first n fault h
