-- How a protocol keeps its session from being opened.
use Rattle.std.specs.Prelude.{◌≡◌, ℕ, List, None, Some}
use Rattle.mps_global.specs.Global.{GlobalType}
use Rattle.mps_global.specs.Faults.{fault_of}
use Rattle.mps_local.specs.Outcome.{IsFirstUnmerged}
use Rattle.mps_local.specs.declared.merging.Merging.{Merging}
use Rattle.mps_local.specs.declared.projection.ProjectFault.{ProjectFault}
use Rattle.mps_local.specs.declared.projection.ProjectFault.TheVariants as projections
use Rattle.mps_session.specs.declared.protocol.ProtocolFault.{ProtocolFault}
use Rattle.mps_session.specs.declared.protocol.ProtocolFault.TheVariants.{Global, Unmergeable, Memory}

-- how it is told that a role has no projection
abbrev pub of_projection : ProjectFault → ProtocolFault
of_projection (projections.Unmergeable role choice) = Unmergeable role choice
of_projection projections.Memory = Memory

-- why the protocol has no session: its first fault; or it has none, and a role, the first, has no projection, or memory
-- ran out
abbrev pub HasNoSession : Merging → List (List ℕ) → GlobalType → ProtocolFault → Type 0
HasNoSession merging roles tree (Global fault) = fault_of roles tree ≡ Some fault
HasNoSession merging roles tree (Unmergeable role choice) =
    (fault_of roles tree ≡ None) × IsFirstUnmerged merging roles tree role choice
HasNoSession merging roles tree Memory = fault_of roles tree ≡ None
