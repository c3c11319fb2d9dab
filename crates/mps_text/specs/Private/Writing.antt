-- What a protocol is written from.
use Rattle.std.specs.Prelude.{ℕ, ◌+◌, List, [], ◌∷◌, ◌++◌, codes}
use Rattle.mps_global.specs.Global.{GlobalType, Branches, End, Var, Rec, Message, Choice, NoMore, More, plain}
use Rattle.mps_global.specs.Global.{plain_branches}
use Rattle.mps_base.specs.Sorts.{sort_word}
use Rattle.mps_global.specs.Private.Weights.{weight, branch_weight}
use Rattle.mps_text.specs.Grammar.{IsNamed, AreNamed}
use Rattle.mps_text.specs.declared.writing.Todo.{Todo}
use Rattle.mps_text.specs.declared.writing.Todo.TheVariants as todos

abbrev mutual
  -- the tokens of a global type
  pub global_tokens : GlobalType → List (List ℕ)
  global_tokens End = codes "end" ∷ []
  global_tokens (Var name) = name ∷ []
  global_tokens (Rec name body) = codes "rec" ∷ name ∷ codes "." ∷ global_tokens body
  global_tokens (Message sender receiver sort next) =
      sender ∷ codes "->" ∷ receiver ∷ codes ":" ∷ sort_word sort ∷ codes "." ∷ global_tokens next
  global_tokens (Choice sender receiver branches) =
      sender ∷ codes "->" ∷ receiver ∷ codes "{" ∷ branch_tokens branches ++ codes "}" ∷ []

  -- the tokens of branches, with a comma between two
  pub branch_tokens : Branches → List (List ℕ)
  branch_tokens NoMore = []
  branch_tokens (More label next NoMore) = label ∷ codes ":" ∷ global_tokens next
  branch_tokens (More label next others) = label ∷ codes ":" ∷ global_tokens next ++ codes "," ∷ branch_tokens others

-- the tokens after `{`
abbrev pub branches_tokens : Branches → List (List ℕ)
branches_tokens branches = branch_tokens branches ++ codes "}" ∷ []

-- the tokens after a branch
abbrev pub others_tokens : Branches → List (List ℕ)
others_tokens NoMore = codes "}" ∷ []
others_tokens (More label next others) = codes "," ∷ branches_tokens (More label next others)

-- of what is to be written next, the tokens, how much it is, and that its names are names
abbrev pub todo_tokens : Todo → List (List ℕ)
todo_tokens (todos.Tree node) = global_tokens (plain node.now)
todo_tokens (todos.Branches branches) = branches_tokens (plain_branches branches.now)
todo_tokens (todos.Others branches) = others_tokens (plain_branches branches.now)

abbrev pub todo_weight : Todo → ℕ
todo_weight (todos.Tree node) = weight node.now
todo_weight (todos.Branches branches) = branch_weight branches.now
todo_weight (todos.Others branches) = branch_weight branches.now

abbrev pub IsTodoNamed : Todo → Type 0
IsTodoNamed (todos.Tree node) = IsNamed (plain node.now)
IsTodoNamed (todos.Branches branches) = AreNamed (plain_branches branches.now)
IsTodoNamed (todos.Others branches) = AreNamed (plain_branches branches.now)

-- the same of all that waits, the last first
abbrev pub left_tokens : List Todo → List (List ℕ)
left_tokens [] = []
left_tokens (next ∷ others) = left_tokens others ++ todo_tokens next

abbrev pub left_weight : List Todo → ℕ
left_weight [] = 0
left_weight (next ∷ others) = left_weight others + todo_weight next
