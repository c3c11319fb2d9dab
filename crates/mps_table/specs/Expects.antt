-- What a table shows of a node.
use Rattle.std.specs.Prelude.{ℕ, ◌<◌, ⊤, length, Option, None, Some}
use Rattle.mps_local.specs.Actions.{Head, Ends, Sends, Receives, Chooses, Picks}
use Rattle.mps_table.specs.declared.expect.Expect.{Expect}
use Rattle.mps_table.specs.declared.expect.Expect.TheVariants.{End, Send, Recv, Select, Branch}

-- what a type begins with, as it is shown
abbrev pub head_of : Expect → Head
head_of End = Ends
head_of (Send peer sort) = Sends peer sort
head_of (Recv peer sort) = Receives peer sort
head_of (Select peer labels) = Chooses peer labels.now
head_of (Branch peer labels) = Picks peer labels.now

-- what may follow where a type begins so: no label after a value, and one of the labels, by its place, after a choice
abbrev pub Allows : Option ℕ → Head → Type 0
Allows None (Sends peer sort) = ⊤
Allows None (Receives peer sort) = ⊤
Allows (Some place) (Chooses peer labels) = place < length labels
Allows (Some place) (Picks peer labels) = place < length labels
Allows choice h = ⊥
