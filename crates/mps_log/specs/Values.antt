-- The messages that steps give, and the values that receipts took.
use Rattle.std.specs.Prelude.{ℕ, List, Option, Some, None}
use Rattle.std.specs.Option.{option_and_then, option_map}
use Rattle.mps_base.specs.declared.action.Act.{Act}
use Rattle.mps_base.specs.Effects.{Effect, Gives, effect}
use Rattle.mps_base.specs.declared.action.Message.{Message}
use Rattle.mps_base.specs.declared.action.Message.TheVariants.{Value as Plain, Label}
use Rattle.mps_base.specs.declared.action.Step.{Step}
use Rattle.mps_base.specs.declared.value.Value.{Value}
use Rattle.mps_history.specs.Slots.{value_in}
use Rattle.mps_history.specs.Steps.{step_of}
use Rattle.mps_arena.specs.KeyedSteps.{KeyedStep, keyed_at}
use Rattle.mps_arena.specs.Neighbours.{source_in}
use Rattle.mps_stores.specs.Stores.{bindings, slot_of, mark_of}

-- the message that comes of the effect
abbrev pub message_in : Effect → Option Message
message_in (Gives to message) = Some message
message_in effect = None

-- the message that an act gives
abbrev pub given_by : Act → Option Message
given_by act = message_in (effect act)

-- the value of a message
abbrev pub value_of : Message → Option Value
value_of (Plain value) = Some value
value_of (Label label) = None

-- the message that the step of the key gave
abbrev pub message_of : List KeyedStep → ℕ → Option Message
message_of es k = option_and_then (λ e. given_by e.step.act) (keyed_at k es)

-- the message that the step of that number gave
abbrev pub message_sent : List Step → ℕ → Option Message
message_sent h n = option_and_then (λ s. given_by s.act) (step_of h n)

-- the message that the receipt of the key took: that of the send that it is matched with
abbrev pub message_taken : List KeyedStep → ℕ → Option Message
message_taken es k = option_and_then (message_of es) (source_in es k)

-- the value that it took
abbrev pub value_taken : List KeyedStep → ℕ → Option Value
value_taken es k = option_and_then value_of (message_taken es k)

-- what role p keeps in the slot: the value that the receipt took to which the slot is bound
abbrev pub kept_in : List KeyedStep → ℕ → List ℕ → Option Value
kept_in es p slot = option_and_then (value_taken es) (value_in slot (bindings slot_of p es))

-- a slot with the value that the receipt took to which it is bound
abbrev pub kept_by : List KeyedStep → List ℕ × ℕ → Option (List ℕ × Value)
kept_by es binding = option_map (λ value. (binding.0, value)) (value_taken es binding.1)

-- the key of role p's last mark of the name
abbrev pub last_mark : List KeyedStep → ℕ → List ℕ → Option ℕ
last_mark es p name = value_in name (bindings mark_of p es)
