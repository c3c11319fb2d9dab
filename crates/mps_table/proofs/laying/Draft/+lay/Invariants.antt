-- `Draft::lay` and `Draft::lay_branches` end: at each call what is laid out weighs less.
use Rattle.mps_local.specs.Private.Weights.{weight, branch_weight}
use Rattle.mps_table.proofs.laying.Draft.+lay.Given as goal

abbrev pub decreases-lay : goal.decreases-lay
decreases-lay l = weight l.tree.now

abbrev pub decreases-lay_branches : goal.decreases-lay_branches
decreases-lay_branches l = branch_weight l.branches.now
