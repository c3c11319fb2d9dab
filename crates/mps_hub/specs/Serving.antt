-- Why a server stops.
use Rattle.std.specs.Prelude.{◌≡◌, ◌<◌, ℕ, Bool, true, ⊤}
use Rattle.mps_hub.specs.Places.{IsSession}
use Rattle.mps_hub.specs.declared.server.ServeFault.{ServeFault}
use Rattle.mps_hub.specs.declared.server.ServeFault.TheVariants.{NoneLeft, Unrecorded}

-- how a server may fail of which so many sessions are recorded, from the one with this number on: that lines of one are
-- lost is a fault only where it is strict, and that no session is left only where some are recorded
abbrev pub IsServeFaultOf : (strict : Bool) (first n : ℕ) → ServeFault → Type 0
IsServeFaultOf strict first n (Unrecorded session) = (strict ≡ true) × IsSession first n session
IsServeFaultOf strict first n NoneLeft = 0 < n
IsServeFaultOf strict first n fault = ⊤
