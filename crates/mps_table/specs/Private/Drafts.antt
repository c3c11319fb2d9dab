-- A table in the making.
use Rattle.std.specs.Prelude.{◌≡◌, ℕ, List, ◌++◌, length}
use Rattle.mps_local.specs.Local.{LocalType, Branches}
use Rattle.mps_table.specs.declared.row.TableRow.{TableRow}
use Rattle.mps_table.specs.declared.laying.Bound.{Bound, Nothing, Inside'}
use Rattle.mps_table.specs.declared.laying.Draft.{Draft}
use Rattle.mps_table.specs.Private.Laying.{Places, put_node, start, all_rows, branch_rows, all_labels, branch_labels}
use Rattle.mps_table.specs.Private.Laying.{all_targets, branch_targets}

-- the nodes of the variables of the `rec`s around a tree, the nearest first
abbrev pub places_of : Bound → Places
places_of Nothing z = 0
places_of (Inside' name node p outer) z = put_node name.now node (places_of outer) z

-- the new draft has these after what the old one has
pub record Adds (old new : Draft) (es : List TableRow) (ls : List (List ℕ)) (ns : List ℕ) : Type 0 where
  pub rows : new.rows.items ≡ old.rows.items ++ es
  pub labels : new.labels.items ≡ old.labels.items ++ ls
  pub targets : new.targets.items ≡ old.targets.items ++ ns

-- how many rows, and how many labels, the draft has
abbrev pub row_count : Draft → ℕ
row_count d = length d.rows.items

abbrev pub label_count : Draft → ℕ
label_count d = length d.labels.items

-- the type is laid out after what the old draft has
abbrev pub Lays : (old new : Draft) → Places → LocalType → Type 0
Lays old new places t =
    Adds old new (all_rows places (row_count old) (label_count old) t) (all_labels t)
    (all_targets places (row_count old) t)

-- the branches are
abbrev pub LaysBranches : (old new : Draft) → Places → Branches → Type 0
LaysBranches old new places b =
    Adds old new (branch_rows places (row_count old) (label_count old) b) (branch_labels b)
    (branch_targets places (row_count old) b)

-- where no variable is bound
abbrev pub nowhere : Places
nowhere z = 0

-- the type alone is laid out, and begins at that node
pub record IsLaidOut (d : Draft) (node : ℕ) (t : LocalType) : Type 0 where
  pub rows : d.rows.items ≡ all_rows nowhere 0 0 t
  pub labels : d.labels.items ≡ all_labels t
  pub targets : d.targets.items ≡ all_targets nowhere 0 t
  pub first : node ≡ start nowhere 0 t
