-- What is wrong with a protocol. Global types are those of Honda, Yoshida, Carbone (Multiparty asynchronous session
-- types, POPL 2008), without channels and parallel composition; limits and the order of faults are this project's.
use Rattle.std.specs.Prelude.{ℕ, ◌+◌, max, Bool, false, ◌==◌, ◌&&◌, ◌||◌, not, List, [], ◌∷◌, ◌++◌, length, nat_lt}
use Rattle.std.specs.Prelude.{Option, None, Some, flat_map, if◌then◌else◌}
use Rattle.std.specs.List.{list_any}
use Rattle.std.specs.Str.{bytes_eq}
use Rattle.mps_global.specs.Global.{GlobalType, Branches, End, Var, Rec, Message, Choice, NoMore, More}
use Rattle.mps_global.specs.Path.{Edge, Loop, Act, Place, place, is_bound, is_unguarded}
use Rattle.mps_global.specs.declared.faults.GlobalFault.{GlobalFault}
use Rattle.mps_global.specs.declared.faults.GlobalFault.TheVariants as faults

-- whether the name is one of the names
abbrev pub is_among : List (List ℕ) → List ℕ → Bool
is_among names name = list_any (bytes_eq name) names

-- whether a name stands twice in the list
abbrev pub has_double : List (List ℕ) → Bool
has_double [] = false
has_double (name ∷ names) = is_among names name || has_double names

-- the labels of a choice
abbrev pub labels : Branches → List (List ℕ)
labels NoMore = []
labels (More label next others) = label ∷ labels others

abbrev mutual
  -- how many nodes a tree has
  pub node_count : GlobalType → ℕ
  node_count End = 1
  node_count (Var name) = 1
  node_count (Rec name body) = node_count body + 1
  node_count (Message sender receiver sort next) = node_count next + 1
  node_count (Choice sender receiver branches) = branch_nodes branches + 1

  -- how many nodes the branches have
  pub branch_nodes : Branches → ℕ
  branch_nodes NoMore = 0
  branch_nodes (More label next others) = node_count next + branch_nodes others

abbrev mutual
  -- how many nodes stand on the longest path from the root
  pub depth : GlobalType → ℕ
  depth End = 1
  depth (Var name) = 1
  depth (Rec name body) = depth body + 1
  depth (Message sender receiver sort next) = depth next + 1
  depth (Choice sender receiver branches) = branch_depth branches + 1

  -- how many nodes stand on the longest path in a branch
  pub branch_depth : Branches → ℕ
  branch_depth NoMore = 0
  branch_depth (More label next others) = max (depth next) (branch_depth others)

abbrev mutual
  -- the nodes of a tree in preorder, where that is the path to its root
  pub places : List Edge → GlobalType → List (Place GlobalType)
  places above End = place End above ∷ []
  places above (Var name) = place (Var name) above ∷ []
  places above (Rec name body) = place (Rec name body) above ∷ places (Loop name ∷ above) body
  places above (Message sender receiver sort next) =
      place (Message sender receiver sort next) above ∷ places (Act ∷ above) next
  places above (Choice sender receiver branches) =
      place (Choice sender receiver branches) above ∷ branch_places (Act ∷ above) branches

  -- the nodes of the branches
  pub branch_places : List Edge → Branches → List (Place GlobalType)
  branch_places above NoMore = []
  branch_places above (More label next others) = places above next ++ branch_places above others

-- the greatest of the numbers, or 0
abbrev pub greatest : List ℕ → ℕ
greatest [] = 0
greatest (n ∷ ns) = max n (greatest ns)

-- of tests in a row, each with the fault that it tells, the fault of the first that is true
abbrev pub first_true : {F : Type 0} → List (Bool × F) → Option F
first_true [] = None
first_true (test ∷ tests) = if test.0 then Some test.1 else first_true tests

-- what may be wrong with the roles
abbrev pub role_tests : List (List ℕ) → List (Bool × GlobalFault)
role_tests roles =
    (nat_lt (length roles) 2 || nat_lt 8 (length roles), faults.RoleCount) ∷ (has_double roles, faults.DoubleRole) ∷ []

-- what may be wrong with the size of the tree
abbrev pub size_tests : GlobalType → List (Bool × GlobalFault)
size_tests tree = (nat_lt 256 (node_count tree), faults.TooManyNodes) ∷ (nat_lt 64 (depth tree), faults.TooDeep) ∷ []

-- what may be wrong with the two roles of a message or a choice
abbrev pub pair_tests : List (List ℕ) → (sender receiver : List ℕ) → List (Bool × GlobalFault)
pair_tests roles sender receiver =
    (not (is_among roles sender && is_among roles receiver), faults.UnknownRole)
    ∷ (bytes_eq sender receiver, faults.SelfMessage) ∷ []

-- what may be wrong with the labels of a choice
abbrev pub label_tests : List (List ℕ) → List (Bool × GlobalFault)
label_tests names =
    (has_double names, faults.DoubleLabel) ∷ (nat_lt 16 (length names), faults.TooManyBranches)
    ∷ (length names == 0, faults.NoBranches) ∷ []

-- what may be wrong with a variable that has that path
abbrev pub variable_tests : List ℕ → List Edge → List (Bool × GlobalFault)
variable_tests name above =
    (not (is_bound name above), faults.Unbound) ∷ (is_unguarded name above, faults.Unguarded) ∷ []

-- what may be wrong with a `rec` of that variable
abbrev pub rec_tests : List ℕ → List Edge → List (Bool × GlobalFault)
rec_tests name above = (is_bound name above, faults.Shadowed) ∷ []

-- what may be wrong at a node with that path
abbrev pub node_tests : List (List ℕ) → List Edge → GlobalType → List (Bool × GlobalFault)
node_tests roles above End = []
node_tests roles above (Var name) = variable_tests name above
node_tests roles above (Rec name body) = rec_tests name above
node_tests roles above (Message sender receiver sort next) = pair_tests roles sender receiver
node_tests roles above (Choice sender receiver branches) =
    pair_tests roles sender receiver ++ label_tests (labels branches)

-- what may be wrong at these nodes, one after the other
abbrev pub tests_at : List (List ℕ) → List (Place GlobalType) → List (Bool × GlobalFault)
tests_at roles ps = flat_map (λ p. node_tests roles p.above p.node) ps

-- what is wrong at the first faulty one of them
abbrev pub first_fault : List (List ℕ) → List (Place GlobalType) → Option GlobalFault
first_fault roles ps = first_true (tests_at roles ps)

-- the first fault of a protocol with these roles and this tree, or none
abbrev pub fault_of : List (List ℕ) → GlobalType → Option GlobalFault
fault_of roles tree = first_true (role_tests roles ++ size_tests tree ++ tests_at roles (places [] tree))
