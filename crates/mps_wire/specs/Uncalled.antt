-- Lines for which nothing is called, of scripts and of conversations.
use Rattle.std.specs.Prelude.{◌≡◌, ℕ, Bool, true, List, ⊤}
use Rattle.mps_base.specs.declared.value.Value.TheVariants.{Text}
use Rattle.mps_command.specs.declared.answer.Answer.TheVariants.{Refused}
use Rattle.mps_command.specs.declared.answer.Refusal.TheVariants.{Memory}
use Rattle.mps_command.specs.declared.command.Command.{Command}
use Rattle.mps_command.specs.declared.command.Command.TheVariants.{Forward, Stand}
use Rattle.mps_command.specs.declared.command.Forward.TheVariants.{Send}
use Rattle.mps_line.specs.declared.write_replies.Reply.{Reply}
use Rattle.mps_line.specs.declared.write_replies.Reply.TheVariants.{Answer as Answered, BadLine}

-- `stand` is asked only where lines may wait
abbrev pub MayAsk : (waits : Bool) → Command → Type 0
MayAsk waits Stand = waits ≡ true
MayAsk waits command = ⊤

-- What a line comes to that is read as `Reads` says: as a command and what stands before it, which is its role in a
-- script, and its number, or none, in a conversation.
module _ {Lead S : Type 0} (Reads : Lead → Command → Type 0) (before : S) (reply : Reply) (after : S) where
  -- no command can be read: the line is called bad, and nothing changes
  pub record IsUnread : Type 0 where
    pub unreadable : (lead : Lead) (command : Command) → Reads lead command → ⊥
    pub bad : reply ≡ BadLine
    pub unchanged : after ≡ before

  -- memory ran out while the line was read, whose value is a text; nothing changes
  pub record IsStarved : Type 0 where
    pub lead : Lead
    pub to : ℕ
    pub value : List ℕ
    pub readable : Reads lead (Forward (Send to (Text value)))
    pub told : reply ≡ Answered (Refused Memory)
    pub unchanged : after ≡ before
