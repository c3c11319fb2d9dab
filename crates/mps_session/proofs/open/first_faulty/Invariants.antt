-- In each turn of the loop of `first_faulty` no type so far has a fault.
use Rattle.std.proofs.Common.{◌≡◌, ℕ, ◌<◌, map, None}
use Rattle.mps_local.specs.Local.{plain}
use Rattle.mps_local.specs.LocalFaults.{local_fault_of}
use Rattle.mps_machine.specs.View.{type_at}
use Rattle.mps_session.proofs.open.first_faulty.Given as goal

abbrev pub invariant-loop-i : goal.invariant-loop-i
invariant-loop-i l = (p : ℕ) → p < l.i → local_fault_of (type_at (map plain l.types) p) ≡ None
