-- How large a table has to be.
use Rattle.std.specs.Prelude.{ℕ, Bool, true, false, List, [], filter, flat_map}
use Rattle.mps_global.specs.Path.{Place}
use Rattle.mps_local.specs.Local as local
use Rattle.mps_local.specs.Local.{LocalType}
use Rattle.mps_local.specs.Actions.{labels}
use Rattle.mps_local.specs.LocalFaults.{places}

-- whether a node of a type is an action or an end: it is neither a variable nor a `rec`
abbrev pub has_row : LocalType → Bool
has_row (local.Var x) = false
has_row (local.Rec x u) = false
has_row t = true

-- the labels of a node, where it is a choice
abbrev pub node_labels : LocalType → List (List ℕ)
node_labels (local.Select peer branches) = labels branches
node_labels (local.Branch peer branches) = labels branches
node_labels t = []

-- the actions and ends of a type
abbrev pub acts_and_ends : LocalType → List (Place LocalType)
acts_and_ends t = filter (λ p. has_row p.node) (places [] t)

-- the labels of all its choices
abbrev pub labels_of_choices : LocalType → List (List ℕ)
labels_of_choices t = flat_map (λ p. node_labels p.node) (places [] t)
