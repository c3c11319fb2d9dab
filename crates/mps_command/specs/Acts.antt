-- Which act a command asks for.
use Rattle.std.specs.Prelude.{Some, None}
use Rattle.mps_base.specs.declared.action.Act.{Act}
use Rattle.mps_base.specs.declared.action.Act.TheVariants as acts
use Rattle.mps_base.specs.declared.action.Message.TheVariants as messages
use Rattle.mps_command.specs.declared.command.Forward.{Forward}
use Rattle.mps_command.specs.declared.command.Forward.TheVariants.{Send, Choose, Receive, Pick, Mark, Commit}

-- the act of a step that a role wants to take: a pick is a receipt without a slot
abbrev pub act_of : Forward → Act
act_of (Send to value) = acts.Out to (messages.Value value)
act_of (Choose to label) = acts.Out to (messages.Label label)
act_of (Receive from slot) = acts.In from (Some slot)
act_of (Pick from) = acts.In from None
act_of (Mark name) = acts.Mark name
act_of Commit = acts.Commit
