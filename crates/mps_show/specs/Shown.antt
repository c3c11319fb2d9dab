-- What a session shows, as JSON data: its history, and what replaying it gives.
use Rattle.std.specs.Prelude.{ℕ, List, [], ◌∷◌, map, length, codes, Option, Some, None}
use Rattle.std.specs.List.{flat_map, range_with_len}
use Rattle.mps_base.specs.Sorts.{sort_word}
use Rattle.mps_base.specs.Spaced.{spaced}
use Rattle.mps_base.specs.declared.action.Act.{Act}
use Rattle.mps_base.specs.declared.action.Act.TheVariants.{Out, In, Mark, Commit}
use Rattle.mps_base.specs.declared.action.Message.{Message}
use Rattle.mps_base.specs.declared.action.Message.TheVariants.{Value as Plain, Label}
use Rattle.mps_base.specs.declared.action.Step.{Step}
use Rattle.mps_base.specs.declared.value.Value.{Value}
use Rattle.mps_base.specs.declared.value.Value.TheVariants.{Int, Bool, Text}
use Rattle.mps_local.specs.Actions.{Head, Ends, Sends, Receives, Chooses, Picks, head}
use Rattle.mps_local.specs.Local.{LocalType}
use Rattle.mps_local.specs.Text.{name_at}
use Rattle.mps_history.specs.Steps.{newest_of, numbers, steps_of}
use Rattle.mps_machine.specs.View.{View, Participant}
use Rattle.mps_machine.specs.Machine.{view_of}
use Rattle.mps_session.specs.SessionState.{moved_from}
use Rattle.serde_json.specs.Data.{Data, null, boolean, number, string, array, object, unsigned, member, no_members}
use Rattle.serde_json.specs.Find.{of_integer}
use Rattle.serde_json.specs.View.{items_of}
use Rattle.serde_json.specs.Written.{compact_text}

-- an array of these
abbrev pub row : List Data → Data
row ds = array (items_of ds)

-- the name of a role
abbrev pub role_name : List (List ℕ) → ℕ → Data
role_name names p = string (name_at names p)

abbrev pub value_shown : Value → Data
value_shown (Int n) = number (of_integer n)
value_shown (Bool b) = boolean b
value_shown (Text t) = string t

-- a message in a step: the step's kind says whether it is a label
abbrev pub moved_shown : Message → Data
moved_shown (Plain v) = value_shown v
moved_shown (Label l) = string l

-- a message in a queue: there a label is told from a text
abbrev pub waiting_shown : Message → Data
waiting_shown (Plain v) = value_shown v
waiting_shown (Label l) = object (member (codes "label") (string l) no_members)

-- what a receipt or a pick took; in a history that has a replay each took something
abbrev pub taken_shown : Option Message → List Data
taken_shown None = []
taken_shown (Some m) = moved_shown m ∷ []

-- a send or a choice, after its role
abbrev pub out_shown : List (List ℕ) → ℕ → Message → List Data
out_shown names to (Plain v) = string (codes "send") ∷ role_name names to ∷ value_shown v ∷ []
out_shown names to (Label l) = string (codes "choose") ∷ role_name names to ∷ string l ∷ []

-- a receipt or a pick, which took that message
abbrev pub in_shown : List (List ℕ) → ℕ → Option (List ℕ) → Option Message → List Data
in_shown names from (Some slot) m = string (codes "recv") ∷ role_name names from ∷ string slot ∷ taken_shown m
in_shown names from None m = string (codes "pick") ∷ role_name names from ∷ taken_shown m

-- an act, which gave or took that message
abbrev pub act_shown : List (List ℕ) → Act → Option Message → List Data
act_shown names (Out to message) m = out_shown names to message
act_shown names (In from slot) m = in_shown names from slot m
act_shown names (Mark name) m = string (codes "mark") ∷ string name ∷ []
act_shown names Commit m = string (codes "commit") ∷ []

-- a step, with the message that it gave or took
abbrev pub step_shown : List (List ℕ) → Step × Option Message → Data
step_shown names m = row (number (unsigned m.0.id) ∷ role_name names m.0.role ∷ act_shown names m.0.act m.1)

-- the queue from p to q, where something waits in it
abbrev pub queue_shown : List (List ℕ) → ℕ → ℕ → List Message → List Data
queue_shown names p q [] = []
queue_shown names p q (m ∷ queue) =
    row (role_name names p ∷ role_name names q ∷ row (map waiting_shown (m ∷ queue)) ∷ []) ∷ []

-- the queues of p, by receiver
abbrev pub queues_from : List (List ℕ) → ℕ → View → ℕ → List Data
queues_from names n v p = flat_map (λ q. queue_shown names p q (v.queue p q)) (range_with_len 0 n)

-- the queues in which something waits, by sender and then by receiver
abbrev pub queues_shown : List (List ℕ) → ℕ → View → List Data
queues_shown names n v = flat_map (queues_from names n v) (range_with_len 0 n)

-- what a role may do next, as words
abbrev pub head_tokens : List (List ℕ) → Head → List (List ℕ)
head_tokens names Ends = codes "end" ∷ []
head_tokens names (Sends peer sort) = codes "send" ∷ name_at names peer ∷ sort_word sort ∷ []
head_tokens names (Receives peer sort) = codes "recv" ∷ name_at names peer ∷ sort_word sort ∷ []
head_tokens names (Chooses peer labels) = codes "choose" ∷ name_at names peer ∷ labels
head_tokens names (Picks peer labels) = codes "pick" ∷ name_at names peer ∷ labels

abbrev pub head_shown : List (List ℕ) → Head → Data
head_shown names h = string (spaced (head_tokens names h))

-- a step's number
abbrev pub number_shown : ℕ → Data
number_shown n = number (unsigned n)

-- a slot with its value
abbrev pub binding_shown : List ℕ × Value → Data
binding_shown binding = row (string binding.0 ∷ value_shown binding.1 ∷ [])

-- role p, whose surviving steps have these numbers: what it may do next, what it did, its name and what it keeps
abbrev pub role_shown : List (List ℕ) → List ℕ → ℕ → Participant → Data
role_shown names past p c =
    object
    (member (codes "expects") (head_shown names (head c.to_come))
    (member (codes "past") (row (map number_shown past))
    (member (codes "role") (role_name names p)
    (member (codes "store") (row (map binding_shown c.store)) no_members))))

abbrev pub roles_shown : List (List ℕ) → List LocalType → List Step → List Data
roles_shown names types h =
    map (λ p. role_shown names (numbers (steps_of p h)) p ((view_of types h).participant p))
    (range_with_len 0 (length types))

-- the history, and what replaying it gives, for roles of these names and types
abbrev pub shown : List (List ℕ) → List LocalType → List Step → Data
shown names types h =
    object
    (member (codes "history") (row (map (step_shown names) (moved_from types [] h)))
    (member (codes "queues") (row (queues_shown names (length types) (view_of types h)))
    (member (codes "roles") (row (roles_shown names types h)) no_members)))

-- its text, without blanks
abbrev pub show_text : List (List ℕ) → List LocalType → List Step → List ℕ
show_text names types h = compact_text (shown names types h)

-- a step with the message that it gave or took, if there is one
abbrev pub newest_shown : List (List ℕ) → Option (Step × Option Message) → Data
newest_shown names None = null
newest_shown names (Some m) = step_shown names m

-- how role p stands: what it may do next, its newest step, and what it keeps
abbrev pub stand_shown : List (List ℕ) → List LocalType → List Step → ℕ → Data
stand_shown names types h p =
    object
    (member (codes "expects") (head_shown names (head ((view_of types h).participant p).to_come))
    (member (codes "newest") (newest_shown names (newest_of p (moved_from types [] h)))
    (member (codes "store") (row (map binding_shown ((view_of types h).participant p).store)) no_members)))

-- its text, without blanks
abbrev pub stand_text : List (List ℕ) → List LocalType → List Step → ℕ → List ℕ
stand_text names types h p = compact_text (stand_shown names types h p)
