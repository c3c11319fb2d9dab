-- A table as lists.
use Rattle.std.specs.Prelude.{ℕ, ◌+◌, ◌<◌, ⊤, List, length, Option, None, Some, slice_get, slice_range, IsSomeAnd}
use Rattle.mps_local.specs.Actions.{Head, Ends, Sends, Receives, Chooses, Picks}
use Rattle.mps_table.specs.declared.row.TableRow.{TableRow}
use Rattle.mps_table.specs.declared.row.TableRow.TheVariants.{End, Send, Recv, Select, Branch}

-- what stands at each node; the labels of all choices, and the nodes after them in the same order; the first node
pub record Graph : Type 0 where
  pub rows : List TableRow
  pub labels : List (List ℕ)
  pub targets : List ℕ
  pub first : ℕ

-- a node of the table
abbrev pub IsNode : Graph → ℕ → Type 0
IsNode g node = node < length g.rows

-- what a row shows
abbrev pub shown : Graph → TableRow → Head
shown g End = Ends
shown g (Send peer sort next) = Sends peer sort
shown g (Recv peer sort next) = Receives peer sort
shown g (Select peer first count) = Chooses peer (slice_range g.labels first (first + count))
shown g (Branch peer first count) = Picks peer (slice_range g.labels first (first + count))

-- the row is an output or an input and no label is given, or it is a choice and has a label of that place
abbrev pub IsFollowed : Option ℕ → TableRow → Type 0
IsFollowed None (Send peer sort next) = ⊤
IsFollowed None (Recv peer sort next) = ⊤
IsFollowed (Some place) (Select peer first count) = place < count
IsFollowed (Some place) (Branch peer first count) = place < count
IsFollowed choice row = ⊥

-- a node with an action, and a label's place exactly where the action is a choice
abbrev pub HasNext : Graph → ℕ → Option ℕ → Type 0
HasNext g node choice = IsSomeAnd (slice_get g.rows node) (IsFollowed choice)

-- the node that follows a row
abbrev pub next_of : Graph → Option ℕ → TableRow → Option ℕ
next_of g None (Send peer sort next) = Some next
next_of g None (Recv peer sort next) = Some next
next_of g (Some place) (Select peer first count) = slice_get g.targets (first + place)
next_of g (Some place) (Branch peer first count) = slice_get g.targets (first + place)
next_of g choice row = None
