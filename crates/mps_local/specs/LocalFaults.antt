-- What is wrong with a local type. The limits and the order of faults are this project's.
use Rattle.std.specs.Prelude.{ℕ, Bool, ◌==◌, not, List, [], ◌∷◌, ◌++◌, length, nat_lt, Option, flat_map}
use Rattle.mps_global.specs.Path.{Edge, Loop, Act, Place, place, is_bound, is_unguarded}
use Rattle.mps_global.specs.Faults.{has_double, first_true}
use Rattle.mps_local.specs.Local.{LocalType, Branches, End, Var, Rec, Send, Recv, Select, Branch, NoMore, More}
use Rattle.mps_local.specs.Actions.{labels}
use Rattle.mps_local.specs.Shape.{node_count, depth}
use Rattle.mps_local.specs.declared.faults.LocalFault.{LocalFault}
use Rattle.mps_local.specs.declared.faults.LocalFault.TheVariants as faults

abbrev mutual
  -- the nodes of a type in preorder, where that is the path to its root
  pub places : List Edge → LocalType → List (Place LocalType)
  places above End = place End above ∷ []
  places above (Var name) = place (Var name) above ∷ []
  places above (Rec name body) = place (Rec name body) above ∷ places (Loop name ∷ above) body
  places above (Send peer sort next) = place (Send peer sort next) above ∷ places (Act ∷ above) next
  places above (Recv peer sort next) = place (Recv peer sort next) above ∷ places (Act ∷ above) next
  places above (Select peer branches) = place (Select peer branches) above ∷ branch_places (Act ∷ above) branches
  places above (Branch peer branches) = place (Branch peer branches) above ∷ branch_places (Act ∷ above) branches

  -- the nodes of the branches
  pub branch_places : List Edge → Branches → List (Place LocalType)
  branch_places above NoMore = []
  branch_places above (More label next others) = places above next ++ branch_places above others

-- what may be wrong with the size of a type
abbrev pub size_tests : LocalType → List (Bool × LocalFault)
size_tests t = (nat_lt 256 (node_count t), faults.TooManyNodes) ∷ (nat_lt 64 (depth t), faults.TooDeep) ∷ []

-- what may be wrong with the labels of a choice
abbrev pub label_tests : List (List ℕ) → List (Bool × LocalFault)
label_tests names =
    (has_double names, faults.DoubleLabel) ∷ (nat_lt 16 (length names), faults.TooManyBranches)
    ∷ (length names == 0, faults.NoBranches) ∷ []

-- what may be wrong with a variable that has that path
abbrev pub variable_tests : List ℕ → List Edge → List (Bool × LocalFault)
variable_tests name above =
    (not (is_bound name above), faults.Unbound) ∷ (is_unguarded name above, faults.Unguarded) ∷ []

-- what may be wrong with a `rec` of that variable
abbrev pub rec_tests : List ℕ → List Edge → List (Bool × LocalFault)
rec_tests name above = (is_bound name above, faults.Shadowed) ∷ []

-- what may be wrong at a node with that path
abbrev pub node_tests : List Edge → LocalType → List (Bool × LocalFault)
node_tests above (Var name) = variable_tests name above
node_tests above (Rec name body) = rec_tests name above
node_tests above (Select peer branches) = label_tests (labels branches)
node_tests above (Branch peer branches) = label_tests (labels branches)
node_tests above node = []

-- what may be wrong at these nodes, one after the other
abbrev pub tests_at : List (Place LocalType) → List (Bool × LocalFault)
tests_at ps = flat_map (λ p. node_tests p.above p.node) ps

-- what is wrong at the first faulty one of them
abbrev pub fault_at : List (Place LocalType) → Option LocalFault
fault_at ps = first_true (tests_at ps)

-- the first fault of a local type, or none
abbrev pub local_fault_of : LocalType → Option LocalFault
local_fault_of t = first_true (size_tests t ++ tests_at (places [] t))
