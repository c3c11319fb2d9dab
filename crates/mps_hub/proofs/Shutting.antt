-- Why no session has some types.
use Rattle.std.proofs.Common.{◌≢◌, ℕ, List, Result, Ok, Err, refl}
use Rattle.std.specs.Prelude.{◌↔◌, IsErrOf, IfErr}
use Rattle.mps_base.specs.RoleLists.{HasRoleCount}
use Rattle.mps_local.specs.Local.{LocalType}
use Rattle.mps_local.specs.declared.faults.LocalFault.{LocalFault}
use Rattle.mps_session.specs.Peers.{IsFirstBad, IsFirstFaulty, KeepsShut}
use Rattle.mps_session.specs.declared.open.OpenFault.{OpenFault}
use Rattle.mps_session.specs.declared.open.OpenFault.TheVariants.{RoleCount, BadPeer, Local, Memory}

-- what opening a session tells says it, unless memory ran out
pub shut : {S : Type 0} (types : List LocalType) (r : Result S OpenFault)
    → (IsErrOf r RoleCount ↔ ¬ HasRoleCount types)
    → ((role : ℕ) → IsErrOf r (BadPeer role) → IsFirstBad types role)
    → ((role : ℕ) (found : LocalFault) → IsErrOf r (Local role found) → IsFirstFaulty types role found)
    → IfErr r (λ fault. fault ≢ Memory → KeepsShut types fault)
shut types (Ok session) count peer local = tt
shut types (Err RoleCount) count peer local = λ other. count.0 refl
shut types (Err (BadPeer role)) count peer local = λ other. peer role refl
shut types (Err (Local role found)) count peer local = λ other. local role found refl
shut types (Err Memory) count peer local = λ other. absurd (other refl)
