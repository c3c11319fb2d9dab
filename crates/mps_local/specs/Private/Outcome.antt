-- How far the projections have come.
use Rattle.std.specs.Prelude.{◌≡◌, ℕ, ◌+◌, ⊤, List, Some, None}
use Rattle.mps_global.specs.Global as global
use Rattle.mps_global.specs.Global.{GlobalType}
use Rattle.mps_local.specs.Local.{LocalType, Branches}
use Rattle.mps_local.specs.Projection.{projection, projections, choice_count, branch_choices, examined, examined_in}
use Rattle.mps_local.specs.Projection.{first_unmerged}
use Rattle.mps_local.specs.declared.merging.Merging.{Merging}
use Rattle.mps_local.specs.declared.projection.ProjectFault.{ProjectFault}
use Rattle.mps_local.specs.declared.projection.ProjectFault.TheVariants as faults

-- the role does that in the tree, whose first choice has that number, and the next choice after it has that one
pub record IsDone (merging : Merging) (roles : List (List ℕ)) (role number : ℕ) (tree : GlobalType) (t : LocalType) (after : ℕ)
    : Type 0 where
  pub defined : projection merging roles role tree ≡ Some t
  pub all_merged : first_unmerged merging roles role (examined roles role number tree) ≡ None
  pub counted : after ≡ number + choice_count tree

-- the same of branches
pub record AreDone (merging : Merging) (roles : List (List ℕ)) (role number : ℕ) (branches : global.Branches) (ts : Branches) (after : ℕ)
    : Type 0 where
  pub defined : projections merging roles role branches ≡ Some ts
  pub all_merged : first_unmerged merging roles role (examined_in roles role number branches) ≡ None
  pub counted : after ≡ number + branch_choices branches

-- the same of branches
pub record CantMergeIn (merging : Merging) (roles : List (List ℕ)) (role number : ℕ) (branches : global.Branches) (who choice : ℕ)
    : Type 0 where
  pub named : who ≡ role
  pub undefined : projections merging roles role branches ≡ None
  pub first : first_unmerged merging roles role (examined_in roles role number branches) ≡ Some choice

-- the same of branches
abbrev pub AreUnmerged : (merging : Merging) (roles : List (List ℕ)) (role number : ℕ) → global.Branches → ProjectFault → Type 0
AreUnmerged merging roles role number branches (faults.Unmergeable who choice) =
    CantMergeIn merging roles role number branches who choice
AreUnmerged merging roles role number branches faults.Memory = ⊤
