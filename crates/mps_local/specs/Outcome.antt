-- What projecting a tree gives.
use Rattle.std.specs.Prelude.{◌≡◌, ℕ, ◌<◌, ⊤, List, Some, None, IsSome, length, slice_get}
use Rattle.mps_global.specs.Global.{GlobalType}
use Rattle.mps_local.specs.Local.{LocalType}
use Rattle.mps_local.specs.Projection.{projection, examined, first_unmerged}
use Rattle.mps_local.specs.declared.merging.Merging.{Merging}
use Rattle.mps_local.specs.declared.projection.ProjectFault.{ProjectFault}
use Rattle.mps_local.specs.declared.projection.ProjectFault.TheVariants as faults

-- the role has no projection, since it can't merge the branches of the choice of that number
pub record CantMerge (merging : Merging) (roles : List (List ℕ)) (role number : ℕ) (tree : GlobalType) (who choice : ℕ) : Type 0 where
  pub named : who ≡ role
  pub undefined : projection merging roles role tree ≡ None
  pub first : first_unmerged merging roles role (examined roles role number tree) ≡ Some choice

-- the fault says so, or that memory ran out
abbrev pub IsUnmerged : (merging : Merging) (roles : List (List ℕ)) (role number : ℕ) → GlobalType → ProjectFault → Type 0
IsUnmerged merging roles role number tree (faults.Unmergeable who choice) = CantMerge merging roles role number tree who choice
IsUnmerged merging roles role number tree faults.Memory = ⊤

-- the local type of each role, in order
pub record AreProjections (merging : Merging) (roles : List (List ℕ)) (tree : GlobalType) (types : List LocalType) : Type 0 where
  pub count : length types ≡ length roles
  pub each : (p : ℕ) → p < length roles → projection merging roles p tree ≡ slice_get types p

-- the role is the first that has no projection, since it can't merge the branches of the choice of that number
pub record IsFirstUnmerged (merging : Merging) (roles : List (List ℕ)) (tree : GlobalType) (role choice : ℕ) : Type 0 where
  pub within : role < length roles
  pub unmerged : CantMerge merging roles role 0 tree role choice
  pub others : (p : ℕ) → p < role → IsSome (projection merging roles p tree)

-- the fault says so, or that memory ran out
abbrev pub AreNotAll : Merging → List (List ℕ) → GlobalType → ProjectFault → Type 0
AreNotAll merging roles tree (faults.Unmergeable role choice) = IsFirstUnmerged merging roles tree role choice
AreNotAll merging roles tree faults.Memory = ⊤
