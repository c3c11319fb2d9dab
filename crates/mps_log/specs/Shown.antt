-- The steps of a log, each with the message that it moved.
use Rattle.std.specs.Prelude.{List, map, Option}
use Rattle.std.specs.Option.{option_or}
use Rattle.mps_base.specs.declared.action.Message.{Message}
use Rattle.mps_base.specs.declared.action.Step.{Step}
use Rattle.mps_arena.specs.KeyedSteps.{KeyedStep}
use Rattle.mps_log.specs.Values.{given_by, message_taken}

-- a step, and the message that it gave or took, if there is one
abbrev pub Moved : Type 0
Moved = Step × Option Message

-- the message that a keyed step gave or took
abbrev pub moved_of : List KeyedStep → KeyedStep → Option Message
moved_of es e = option_or (given_by e.step.act) (message_taken es e.key)

-- these keyed steps, as they are shown
abbrev pub shown : List KeyedStep → List KeyedStep → List Moved
shown es part = map (λ e. (e.step, moved_of es e)) part
