-- What a copy is made of.
use Rattle.std.specs.Prelude.{ℕ, ◌+◌, ◌*◌, List, [], ◌∷◌, map, reverse, drop, slice_index_or}
use Rattle.mps_local.specs.Local.{LocalType, Branches, End, Var, Rec, Send, Recv, Select, Branch, NoMore, More, plain}
use Rattle.mps_local.specs.Local.{plain_branches}
use Rattle.mps_local.specs.Private.Weights.{weight, branch_weight}
use Rattle.mps_local.specs.declared.Local.{Local, End as End', Var as Var', Rec', Send', Recv', Select as Select'}
use Rattle.mps_local.specs.declared.Local.{Branch as Branch'}
use Rattle.mps_local.specs.declared.Branches.{Branches as Branches', NoMore as NoMore', More'}
use Rattle.mps_local.specs.declared.copying.Made.{Made}
use Rattle.mps_local.specs.declared.copying.Todo.{Todo}
use Rattle.mps_local.specs.declared.copying.Todo.TheVariants as todos

-- the trees and the branches that are made, the last first
pub record Stacks : Type 0 where
  pub trees : List LocalType
  pub branches : List Branches

abbrev pub stacks : Made → Stacks
stacks made = record {
  trees = reverse (map plain made.trees.items);
  branches = reverse (map plain_branches made.branches.items);
}

abbrev pub nothing_made : Stacks
nothing_made = record { trees = []; branches = [] }

-- one more
abbrev pub with_tree : LocalType → Stacks → Stacks
with_tree t s = record { trees = t ∷ s.trees; branches = s.branches }

abbrev pub with_branches : Branches → Stacks → Stacks
with_branches b s = record { trees = s.trees; branches = b ∷ s.branches }

-- the last that was made, and the stacks without it
abbrev pub last_tree : Stacks → LocalType
last_tree s = slice_index_or s.trees 0 End

abbrev pub last_branches : Stacks → Branches
last_branches s = slice_index_or s.branches 0 NoMore

abbrev pub without_tree : Stacks → Stacks
without_tree s = record { trees = drop 1 s.trees; branches = s.branches }

abbrev pub without_branches : Stacks → Stacks
without_branches s = record { trees = s.trees; branches = drop 1 s.branches }

-- a node like this one, made of the last
abbrev pub with_node : Local → Stacks → Stacks
with_node End' s = with_tree End s
with_node (Var' name) s = with_tree (Var name) s
with_node (Rec' name p body) s = with_tree (Rec name (last_tree s)) (without_tree s)
with_node (Send' peer sort p next) s = with_tree (Send peer sort (last_tree s)) (without_tree s)
with_node (Recv' peer sort p next) s = with_tree (Recv peer sort (last_tree s)) (without_tree s)
with_node (Select' peer branches) s = with_tree (Select peer (last_branches s)) (without_branches s)
with_node (Branch' peer branches) s = with_tree (Branch peer (last_branches s)) (without_branches s)

-- a branch like the first of these, made of the last
abbrev pub with_arm : Branches' → Stacks → Stacks
with_arm NoMore' s = with_branches NoMore s
with_arm (More' label p next q rest) s =
    with_branches (More label (last_tree s) (last_branches s)) (without_branches (without_tree s))

-- the stacks when the next is made
abbrev pub with_next : Todo → Stacks → Stacks
with_next (todos.Tree tree) s = with_tree (plain tree.now) s
with_next (todos.Branches branches) s = with_branches (plain_branches branches.now) s
with_next (todos.Node tree) s = with_node tree.now s
with_next (todos.Arm branches) s = with_arm branches.now s

-- the stacks when all that waits is made, the last first
abbrev pub with_all : List Todo → Stacks → Stacks
with_all [] s = s
with_all (next ∷ later) s = with_next next (with_all later s)

-- how much it is to make
abbrev pub todo_weight : Todo → ℕ
todo_weight (todos.Tree tree) = 2 * weight tree.now
todo_weight (todos.Branches branches) = 2 * branch_weight branches.now
todo_weight (todos.Node tree) = 1
todo_weight (todos.Arm branches) = 1

abbrev pub left_weight : List Todo → ℕ
left_weight [] = 0
left_weight (next ∷ later) = left_weight later + todo_weight next
