-- A local type laid out as a table: actions and ends in preorder, each choice's own labels before those of its
-- branches. A `rec` has no row: its node is that of its body, and a variable's that of its `rec`.
use Rattle.std.specs.Prelude.{ℕ, ◌+◌, if◌then◌else◌, List, [], ◌∷◌, ◌++◌, length}
use Rattle.std.specs.Str.{bytes_eq}
use Rattle.mps_local.specs.Local as local
use Rattle.mps_local.specs.Local.{LocalType, Branches}
use Rattle.mps_local.specs.Actions.{labels}
use Rattle.mps_table.specs.declared.row.TableRow.{TableRow}
use Rattle.mps_table.specs.declared.row.TableRow.TheVariants.{End, Send, Recv, Select, Branch}

abbrev mutual
  -- how many rows a type has
  pub size : LocalType → ℕ
  size local.End = 1
  size (local.Var x) = 0
  size (local.Rec x u) = size u
  size (local.Send peer sort u) = size u + 1
  size (local.Recv peer sort u) = size u + 1
  size (local.Select peer branches) = branch_size branches + 1
  size (local.Branch peer branches) = branch_size branches + 1

  -- how many the branches have
  pub branch_size : Branches → ℕ
  branch_size local.NoMore = 0
  branch_size (local.More label u others) = size u + branch_size others

abbrev mutual
  -- the labels of its choices
  pub all_labels : LocalType → List (List ℕ)
  all_labels local.End = []
  all_labels (local.Var x) = []
  all_labels (local.Rec x u) = all_labels u
  all_labels (local.Send peer sort u) = all_labels u
  all_labels (local.Recv peer sort u) = all_labels u
  all_labels (local.Select peer branches) = labels branches ++ branch_labels branches
  all_labels (local.Branch peer branches) = labels branches ++ branch_labels branches

  -- the labels of the choices in the branches
  pub branch_labels : Branches → List (List ℕ)
  branch_labels local.NoMore = []
  branch_labels (local.More label u others) = all_labels u ++ branch_labels others

-- the node of each variable
abbrev pub Places : Type 0
Places = List ℕ → ℕ

abbrev pub put_node : List ℕ → ℕ → Places → Places
put_node x node places z = if bytes_eq z x then node else places z

-- the node of a type whose rows begin at that place
abbrev pub start : Places → ℕ → LocalType → ℕ
start places at (local.Var x) = places x
start places at (local.Rec x u) = start places at u
start places at t = at

-- the nodes of branches whose rows begin at that place
abbrev pub starts : Places → ℕ → Branches → List ℕ
starts places at local.NoMore = []
starts places at (local.More label u others) = start places at u ∷ starts places (at + size u) others

abbrev mutual
  -- the nodes after all its labels
  pub all_targets : Places → ℕ → LocalType → List ℕ
  all_targets places at local.End = []
  all_targets places at (local.Var x) = []
  all_targets places at (local.Rec x u) = all_targets (put_node x (start places at u) places) at u
  all_targets places at (local.Send peer sort u) = all_targets places (at + 1) u
  all_targets places at (local.Recv peer sort u) = all_targets places (at + 1) u
  all_targets places at (local.Select peer branches) =
      starts places (at + 1) branches ++ branch_targets places (at + 1) branches
  all_targets places at (local.Branch peer branches) =
      starts places (at + 1) branches ++ branch_targets places (at + 1) branches

  pub branch_targets : Places → ℕ → Branches → List ℕ
  branch_targets places at local.NoMore = []
  branch_targets places at (local.More label u others) =
      all_targets places at u ++ branch_targets places (at + size u) others

abbrev mutual
  -- its rows, from that place on, with the labels from that place on
  pub all_rows : Places → (at first : ℕ) → LocalType → List TableRow
  all_rows places at first local.End = End ∷ []
  all_rows places at first (local.Var x) = []
  all_rows places at first (local.Rec x u) = all_rows (put_node x (start places at u) places) at first u
  all_rows places at first (local.Send peer sort u) =
      Send peer sort (start places (at + 1) u) ∷ all_rows places (at + 1) first u
  all_rows places at first (local.Recv peer sort u) =
      Recv peer sort (start places (at + 1) u) ∷ all_rows places (at + 1) first u
  all_rows places at first (local.Select peer branches) =
      Select peer first (length (labels branches))
      ∷ branch_rows places (at + 1) (first + length (labels branches)) branches
  all_rows places at first (local.Branch peer branches) =
      Branch peer first (length (labels branches))
      ∷ branch_rows places (at + 1) (first + length (labels branches)) branches

  pub branch_rows : Places → (at first : ℕ) → Branches → List TableRow
  branch_rows places at first local.NoMore = []
  branch_rows places at first (local.More label u others) =
      all_rows places at first u ++ branch_rows places (at + size u) (first + length (all_labels u)) others
