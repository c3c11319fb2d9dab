-- How much of a tree is left to drop.
use Rattle.std.specs.Prelude.{ℕ, ◌+◌}
use Rattle.mps_global.specs.declared.Global.{Global, End, Var, Rec', Message', Choice}
use Rattle.mps_global.specs.declared.Branches.{Branches, NoMore, More'}

abbrev mutual
  -- of a tree, its nodes and, for each choice, one for each branch and one more
  pub weight : Global → ℕ
  weight End = 1
  weight (Var name) = 1
  weight (Rec' name p body) = weight body + 1
  weight (Message' sender receiver sort p next) = weight next + 1
  weight (Choice sender receiver branches) = branch_weight branches + 1

  pub branch_weight : Branches → ℕ
  branch_weight NoMore = 1
  branch_weight (More' label p next q others) = weight next + branch_weight others + 1

-- of the trees that wait
abbrev pub waiting_weight : Branches → ℕ
waiting_weight NoMore = 0
waiting_weight (More' label p next q others) = weight next + waiting_weight others
