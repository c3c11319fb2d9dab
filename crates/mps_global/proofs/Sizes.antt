-- The size of a tree, and the list of its nodes.
use Rattle.std.proofs.Common.{◌≡◌, ℕ, ◌+◌, ◌<◌, max, List, [], ◌∷◌, ◌++◌, length, map, length-append, refl, arith}
use Rattle.mps_global.specs.Global.{GlobalType, Branches, End, Var, Rec, Message, Choice, NoMore, More}
use Rattle.mps_global.specs.Path.{Edge, Loop, Act, level}
use Rattle.mps_global.specs.Faults.{node_count, branch_nodes, depth, branch_depth, places, branch_places, greatest}

-- a tree has a node
pub some_node : (tree : GlobalType) → 0 < node_count tree
some_node End = omega arith
some_node other = omega arith

-- a path from the root has a node
pub some_depth : (tree : GlobalType) → 0 < depth tree
some_depth End = omega arith
some_depth other = omega arith

mutual
  -- the list is as long as the tree has nodes
  pub as_many : (above : List Edge) (tree : GlobalType) → length (places above tree) ≡ node_count tree
  as_many above End = omega arith
  as_many above (Var name) = omega arith
  as_many above (Rec name body) = omega (arith, as_many (Loop name ∷ above) body)
  as_many above (Message sender receiver sort next) = omega (arith, as_many (Act ∷ above) next)
  as_many above (Choice sender receiver branches) =
      omega (arith, branches_as_many (Act ∷ above) branches)

  branches_as_many : (above : List Edge) (branches : Branches) → length (branch_places above branches) ≡ branch_nodes branches
  branches_as_many above NoMore = refl
  branches_as_many above (More label next others) =
      omega (arith, as_many above next, branches_as_many above others, length-append (places above next) (branch_places above others))

-- the greatest of two lists is that of both
pub greatest_of_both : {P : Type 0} (f : P → ℕ) (ps qs : List P) → greatest (map f (ps ++ qs)) ≡ max (greatest (map f ps)) (greatest (map f qs))
greatest_of_both f [] qs = omega arith
greatest_of_both f (p ∷ ps) qs = omega (arith, greatest_of_both f ps qs)

mutual
  -- below so many nodes, the deepest node stands so much deeper
  pub as_deep : (above : List Edge) (tree : GlobalType) → greatest (map level (places above tree)) ≡ length above + depth tree
  as_deep above End = omega arith
  as_deep above (Var name) = omega arith
  as_deep above (Rec name body) = omega (arith, as_deep (Loop name ∷ above) body, some_depth body)
  as_deep above (Message sender receiver sort next) =
      omega (arith, as_deep (Act ∷ above) next, some_depth next)
  as_deep above (Choice sender receiver branches) =
      omega (arith, branches_as_deep (Act ∷ above) branches)

  branches_as_deep : (above : List Edge) (branches : Branches) → max (length above) (greatest (map level (branch_places above branches))) ≡ length above + branch_depth branches
  branches_as_deep above NoMore = omega arith
  branches_as_deep above (More label next others) =
      omega (arith, as_deep above next, branches_as_deep above others, greatest_of_both level (places above next) (branch_places above others))
