-- Which types a session can be opened with, and which roles its steps name.
use Rattle.std.specs.Prelude.{◌≡◌, ℕ, ◌<◌, ⊤, List, length, Some, None}
use Rattle.mps_base.specs.RoleLists.{HasRoleCount}
use Rattle.mps_base.specs.declared.action.Act.{Act}
use Rattle.mps_base.specs.Effects.{Effect, Gives, Takes, Idle, effect}
use Rattle.mps_base.specs.declared.action.Step.{Step}
use Rattle.mps_local.specs.Actions.{Head, Ends, Sends, Receives, Chooses, Picks}
use Rattle.mps_local.specs.Local.{LocalType}
use Rattle.mps_local.specs.LocalFaults.{local_fault_of}
use Rattle.mps_local.specs.Shape.{AllPeers, IsOtherRole}
use Rattle.mps_local.specs.declared.faults.LocalFault.{LocalFault}
use Rattle.mps_machine.specs.View.{type_at}
use Rattle.mps_session.specs.declared.open.OpenFault.{OpenFault}
use Rattle.mps_session.specs.declared.open.OpenFault.TheVariants.{RoleCount, BadPeer, Local, Memory}

-- each peer that the type of role p names is another of the n roles
abbrev pub HasPeers : (n p : ℕ) → LocalType → Type 0
HasPeers n p = AllPeers (IsOtherRole n p)

-- each type does
abbrev pub HavePeers : List LocalType → Type 0
HavePeers types = (p : ℕ) → p < length types → HasPeers (length types) p (type_at types p)

-- no type has a fault
abbrev pub AreFaultless : List LocalType → Type 0
AreFaultless types = (p : ℕ) → p < length types → local_fault_of (type_at types p) ≡ None

-- p is the least role whose type names itself or no role of the session
pub record IsFirstBad (types : List LocalType) (p : ℕ) : Type 0 where
  pub within : p < length types
  pub bad : HasPeers (length types) p (type_at types p) → ⊥
  pub others : (q : ℕ) → q < p → HasPeers (length types) q (type_at types q)

-- p is the least role whose type has a fault, which is its first
pub record IsLeastFaulty (types : List LocalType) (p : ℕ) (fault : LocalFault) : Type 0 where
  pub within : p < length types
  pub faulty : local_fault_of (type_at types p) ≡ Some fault
  pub others : (q : ℕ) → q < p → local_fault_of (type_at types q) ≡ None

-- the same, where each type has the peers that it may
pub record IsFirstFaulty (types : List LocalType) (p : ℕ) (fault : LocalFault) : Type 0 where
  pub peers : HavePeers types
  pub least : IsLeastFaulty types p fault

-- types that a session can be opened with
pub record CanOpen (types : List LocalType) : Type 0 where
  pub roles : HasRoleCount types
  pub peers : HavePeers types
  pub faultless : AreFaultless types

-- why a session with these types isn't opened; out of memory is no fault of opening
abbrev pub KeepsShut : List LocalType → OpenFault → Type 0
KeepsShut types RoleCount = ¬ (HasRoleCount types)
KeepsShut types (BadPeer role) = IsFirstBad types role
KeepsShut types (Local role fault) = IsFirstFaulty types role fault
KeepsShut types Memory = ⊥

-- the effect's peer, if it has one, is one of n roles
abbrev pub IsEffectKnown : ℕ → Effect → Type 0
IsEffectKnown n (Gives to message) = to < n
IsEffectKnown n (Takes from slot) = from < n
IsEffectKnown n Idle = ⊤

-- the act's peer, if it has one, is one of n roles
abbrev pub IsPeerKnown : ℕ → Act → Type 0
IsPeerKnown n act = IsEffectKnown n (effect act)

-- the step is of one of n roles, and so is its peer
abbrev pub IsKnown : ℕ → Step → Type 0
IsKnown n s = (s.role < n) × IsPeerKnown n s.act

-- the peer with whom a type begins is one of n roles
abbrev pub IsHeadKnown : ℕ → Head → Type 0
IsHeadKnown n Ends = ⊤
IsHeadKnown n (Sends peer sort) = peer < n
IsHeadKnown n (Receives peer sort) = peer < n
IsHeadKnown n (Chooses peer labels) = peer < n
IsHeadKnown n (Picks peer labels) = peer < n
