-- Verdicts on one type, for private functions.
use Rattle.std.specs.Prelude.{◌≡◌, ℕ, List, [], ◌∷◌, Option, Some, None, Result, Ok, Err}
use Rattle.std.specs.List.{position}
use Rattle.std.specs.Str.{bytes_eq}
use Rattle.mps_base.specs.declared.action.Act.{Act}
use Rattle.mps_base.specs.declared.action.Message.{Message}
use Rattle.mps_base.specs.declared.action.Message.TheVariants as messages
use Rattle.mps_command.specs.declared.answer.Violation.{Violation}
use Rattle.mps_local.specs.Actions.{Head, Ends, Sends, Receives, Chooses, Picks}
use Rattle.mps_local.specs.Local.{LocalType, Branches, End, Send, Recv, Select, Branch, NoMore, More}
use Rattle.mps_machine.specs.Violations.{act_fault}
use Rattle.mps_monitor.specs.declared.verdict.Advance.{Advance}
use Rattle.mps_monitor.specs.declared.verdict.Advance.TheVariants.{Next, Into}

-- the labels of the choice that a type begins with, if it begins with one
abbrev pub labels_of : Head → List (List ℕ)
labels_of (Chooses peer labels) = labels
labels_of (Picks peer labels) = labels
labels_of h = []

-- the first place at which the label stands
abbrev pub place_of_label : List (List ℕ) → List ℕ → Option ℕ
place_of_label labels label = position (λ other. bytes_eq other label) labels

-- branches of these labels, each of which ends
abbrev pub ending : List (List ℕ) → Branches
ending [] = NoMore
ending (label ∷ labels) = More label End (ending labels)

-- a type that begins so
abbrev pub one_of : Head → LocalType
one_of Ends = End
one_of (Sends peer sort) = Send peer sort End
one_of (Receives peer sort) = Recv peer sort End
one_of (Chooses peer labels) = Select peer (ending labels)
one_of (Picks peer labels) = Branch peer (ending labels)

-- a way to go on that suits what a type begins with, for the message that is moved
abbrev pub Suits : Head → Option Message → Advance → Type 0
Suits h (Some (messages.Label label)) (Into k) = place_of_label (labels_of h) label ≡ Some k
Suits h (Some (messages.Value value)) Next = Unit {0}
Suits h m a = ⊥

-- the verdict on an act that moves this message: how to go on, or the violation, of a type that begins so
abbrev pub IsVerdict : Head → Act → Option Message → Result Advance Violation → Type 0
IsVerdict h act m (Ok a) = (act_fault (one_of h) act m ≡ None) × Suits h m a
IsVerdict h act m (Err fault) = act_fault (one_of h) act m ≡ Some fault
