-- The size of a type, and the list of its nodes.
use Rattle.std.proofs.Common.{◌≡◌, ◌+◌, ◌<◌, max, List, ◌∷◌, length, map, length-append, refl, arith}
use Rattle.mps_global.specs.Faults.{greatest}
use Rattle.mps_global.specs.Path.{Edge, Loop, Act, level}
use Rattle.mps_global.proofs.Sizes.{greatest_of_both}
use Rattle.mps_local.specs.Local.{LocalType, Branches, End, Var, Rec, Send, Recv, Select, Branch, NoMore, More}
use Rattle.mps_local.specs.LocalFaults.{places, branch_places}
use Rattle.mps_local.specs.Shape.{node_count, branch_nodes, depth, branch_depth}

-- a type has a node
pub some_node : (t : LocalType) → 0 < node_count t
some_node End = omega arith
some_node other = omega arith

-- a path from the root has a node
pub some_depth : (t : LocalType) → 0 < depth t
some_depth End = omega arith
some_depth other = omega arith

mutual
  -- the list is as long as the type has nodes
  pub as_many : (above : List Edge) (t : LocalType) → length (places above t) ≡ node_count t
  as_many above End = omega arith
  as_many above (Var name) = omega arith
  as_many above (Rec name body) = omega (arith, as_many (Loop name ∷ above) body)
  as_many above (Send peer sort next) = omega (arith, as_many (Act ∷ above) next)
  as_many above (Recv peer sort next) = omega (arith, as_many (Act ∷ above) next)
  as_many above (Select peer branches) = omega (arith, branches_as_many (Act ∷ above) branches)
  as_many above (Branch peer branches) = omega (arith, branches_as_many (Act ∷ above) branches)

  branches_as_many : (above : List Edge) (branches : Branches) → length (branch_places above branches) ≡ branch_nodes branches
  branches_as_many above NoMore = refl
  branches_as_many above (More label next others) =
      omega (arith, as_many above next, branches_as_many above others, length-append (places above next) (branch_places above others))

mutual
  -- below so many nodes, the deepest node stands so much deeper
  pub as_deep : (above : List Edge) (t : LocalType) → greatest (map level (places above t)) ≡ length above + depth t
  as_deep above End = omega arith
  as_deep above (Var name) = omega arith
  as_deep above (Rec name body) = omega (arith, as_deep (Loop name ∷ above) body, some_depth body)
  as_deep above (Send peer sort next) = omega (arith, as_deep (Act ∷ above) next, some_depth next)
  as_deep above (Recv peer sort next) = omega (arith, as_deep (Act ∷ above) next, some_depth next)
  as_deep above (Select peer branches) = omega (arith, branches_as_deep (Act ∷ above) branches)
  as_deep above (Branch peer branches) = omega (arith, branches_as_deep (Act ∷ above) branches)

  branches_as_deep : (above : List Edge) (branches : Branches) → max (length above) (greatest (map level (branch_places above branches))) ≡ length above + branch_depth branches
  branches_as_deep above NoMore = omega arith
  branches_as_deep above (More label next others) =
      omega (arith, as_deep above next, branches_as_deep above others, greatest_of_both level (places above next) (branch_places above others))
