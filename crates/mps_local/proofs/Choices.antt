-- How many choices a tree has.
use Rattle.std.proofs.Common.{◌≤◌, arith}
use Rattle.mps_global.specs.Global as global
use Rattle.mps_global.specs.Global.{GlobalType}
use Rattle.mps_global.specs.Faults.{node_count, branch_nodes}
use Rattle.mps_local.specs.Projection.{choice_count, branch_choices}

mutual
  -- at most as many as nodes
  pub few_choices : (tree : GlobalType) → choice_count tree ≤ node_count tree
  few_choices global.End = omega arith
  few_choices (global.Var name) = omega arith
  few_choices (global.Rec name body) = let few = few_choices body in omega (arith, few)
  few_choices (global.Message sender receiver sort next) = let few = few_choices next in omega (arith, few)
  few_choices (global.Choice sender receiver branches) = let few = few_branch_choices branches in omega (arith, few)

  few_branch_choices : (branches : global.Branches) → branch_choices branches ≤ branch_nodes branches
  few_branch_choices global.NoMore = omega arith
  few_branch_choices (global.More label next others) =
      let a = few_choices next in let b = few_branch_choices others in omega (arith, a, b)
