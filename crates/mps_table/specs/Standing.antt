-- For which types a node stands.
use Rattle.std.specs.Prelude.{◌≡◌, ℕ, suc, ⊤, List, [], ◌∷◌, length, Some, slice_get}
use Rattle.mps_local.specs.Local as local
use Rattle.mps_local.specs.Local.{LocalType, Branches}
use Rattle.mps_local.specs.Actions as actions
use Rattle.mps_local.specs.Unfolding.{unfolded}
use Rattle.mps_table.specs.declared.row.TableRow.{TableRow}
use Rattle.mps_table.specs.declared.row.TableRow.TheVariants.{End, Send, Recv, Select, Branch}
use Rattle.mps_table.specs.Graph.{Graph}

-- from that place on the list has these
abbrev pub HasFrom : {A : Type 0} → List A → ℕ → List A → Type 0
HasFrom list from [] = ⊤
HasFrom list from (x ∷ xs) = (slice_get list from ≡ Some x) × HasFrom list (suc from) xs

-- where each node has such a type: the node's type is the unfolding of t
abbrev pub StandsIn : List LocalType → ℕ → LocalType → Type 0
StandsIn types node t = slice_get types node ≡ Some (unfolded t)

-- from that place on the targets are nodes of these types
abbrev pub StandFrom : List LocalType → List ℕ → ℕ → List LocalType → Type 0
StandFrom types targets from [] = ⊤
StandFrom types targets from (t ∷ ts) =
    ((node : ℕ) × (slice_get targets from ≡ Some node) × StandsIn types node t) × StandFrom types targets (suc from) ts

-- so many labels from a place on are those of the branches, with nodes of the types after them
pub record HasBranches (g : Graph) (types : List LocalType) (first count : ℕ) (b : Branches) : Type 0 where
  pub as_many : count ≡ length (actions.labels b)
  pub labels : HasFrom g.labels first (actions.labels b)
  pub targets : StandFrom types g.targets first (actions.nexts b)

-- the row says how the type begins, and its nodes have the types that follow
abbrev pub IsRowOf : Graph → List LocalType → TableRow → LocalType → Type 0
IsRowOf g types End t = t ≡ local.End
IsRowOf g types (Send peer sort next) t = (u : LocalType) × (t ≡ local.Send peer sort u) × StandsIn types next u
IsRowOf g types (Recv peer sort next) t = (u : LocalType) × (t ≡ local.Recv peer sort u) × StandsIn types next u
IsRowOf g types (Select peer first count) t =
    (b : Branches) × (t ≡ local.Select peer b) × HasBranches g types first count b
IsRowOf g types (Branch peer first count) t =
    (b : Branches) × (t ≡ local.Branch peer b) × HasBranches g types first count b

-- these are rows of those types, each of the one in its place
abbrev pub AreRowsOf : Graph → List LocalType → List TableRow → List LocalType → Type 0
AreRowsOf g types [] [] = ⊤
AreRowsOf g types (row ∷ rows) (t ∷ ts) = IsRowOf g types row t × AreRowsOf g types rows ts
AreRowsOf g types rows ts = ⊥

-- the table can be read so: each node has such a type
abbrev pub Explains : Graph → List LocalType → Type 0
Explains g types = AreRowsOf g types g.rows types

-- the node stands for the type: the table can be read so that what may be done from the node on, as far as one looks,
-- is what the type allows
abbrev pub StandsFor : Graph → ℕ → LocalType → Type 0
StandsFor g node t = (types : List LocalType) × Explains g types × StandsIn types node t
