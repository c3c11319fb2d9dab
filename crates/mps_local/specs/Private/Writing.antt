-- What is left of a local type to write.
use Rattle.std.specs.Prelude.{ℕ, ◌+◌, ◌<◌, List, [], ◌∷◌, ◌++◌, codes}
use Rattle.mps_local.specs.Local.{Branches, NoMore, More, plain, plain_branches}
use Rattle.mps_local.specs.Shape.{AllPeers, AllBranchPeers}
use Rattle.mps_local.specs.Text.{local_tokens, branch_tokens}
use Rattle.mps_local.specs.Private.Weights.{weight, branch_weight}
use Rattle.mps_local.specs.declared.writing.Todo.{Todo}
use Rattle.mps_local.specs.declared.writing.Todo.TheVariants as todos

-- the tokens after `{`
abbrev pub branches_tokens : (roles : List (List ℕ)) → Branches → List (List ℕ)
branches_tokens roles branches = branch_tokens roles branches ++ codes "}" ∷ []

-- the tokens after a branch
abbrev pub others_tokens : (roles : List (List ℕ)) → Branches → List (List ℕ)
others_tokens roles NoMore = codes "}" ∷ []
others_tokens roles (More label next others) = codes "," ∷ branches_tokens roles (More label next others)

-- of what is to be written next, the tokens, how much it is, and that its peers are roles of so many
abbrev pub todo_tokens : (roles : List (List ℕ)) → Todo → List (List ℕ)
todo_tokens roles (todos.Tree node) = local_tokens roles (plain node.now)
todo_tokens roles (todos.Branches branches) = branches_tokens roles (plain_branches branches.now)
todo_tokens roles (todos.Others branches) = others_tokens roles (plain_branches branches.now)

abbrev pub todo_weight : Todo → ℕ
todo_weight (todos.Tree node) = weight node.now
todo_weight (todos.Branches branches) = branch_weight branches.now
todo_weight (todos.Others branches) = branch_weight branches.now

abbrev pub IsTodoKnown : (count : ℕ) → Todo → Type 0
IsTodoKnown count (todos.Tree node) = AllPeers (λ peer. peer < count) (plain node.now)
IsTodoKnown count (todos.Branches branches) = AllBranchPeers (λ peer. peer < count) (plain_branches branches.now)
IsTodoKnown count (todos.Others branches) = AllBranchPeers (λ peer. peer < count) (plain_branches branches.now)

-- the same of all that waits, the last first
abbrev pub left_tokens : (roles : List (List ℕ)) → List Todo → List (List ℕ)
left_tokens roles [] = []
left_tokens roles (next ∷ others) = left_tokens roles others ++ todo_tokens roles next

abbrev pub left_weight : List Todo → ℕ
left_weight [] = 0
left_weight (next ∷ others) = left_weight others + todo_weight next
