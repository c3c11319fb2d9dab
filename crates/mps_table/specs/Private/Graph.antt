-- When a table leads nowhere outside itself.
use Rattle.std.specs.Prelude.{◌≡◌, ℕ, ◌+◌, ◌<◌, ◌≤◌, ⊤, List, length}
use Rattle.std.specs.List.{AllByRecursion}
use Rattle.mps_table.specs.declared.row.TableRow.{TableRow}
use Rattle.mps_table.specs.declared.row.TableRow.TheVariants.{Send, Recv, Select, Branch}

-- the labels of a choice are among so many
abbrev pub IsWithin : ℕ → TableRow → Type 0
IsWithin many (Select peer first count) = first + count ≤ many
IsWithin many (Branch peer first count) = first + count ≤ many
IsWithin many row = ⊤

-- what follows an output or an input is one of so many nodes
abbrev pub LeadsWithin : ℕ → TableRow → Type 0
LeadsWithin many (Send peer sort next) = next < many
LeadsWithin many (Recv peer sort next) = next < many
LeadsWithin many row = ⊤

-- a node stands after each label, each choice has labels of the table, and all nodes are nodes of the table
pub record IsSound (rows : List TableRow) (labels : List (List ℕ)) (targets : List ℕ) (first : ℕ) : Type 0 where
  pub paired : length labels ≡ length targets
  pub within : AllByRecursion (IsWithin (length labels)) rows
  pub leads : AllByRecursion (LeadsWithin (length rows)) rows
  pub targets_known : AllByRecursion (λ node. node < length rows) targets
  pub first_known : first < length rows
