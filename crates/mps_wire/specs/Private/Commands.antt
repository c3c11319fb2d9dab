-- What one command does, and what is written of it.
use Rattle.std.specs.Prelude.{◌≡◌, ℕ, List}
use Rattle.mps_base.specs.Appends.{AppendsSuch}
use Rattle.mps_local.specs.Local.{LocalType}
use Rattle.mps_command.specs.declared.answer.Answer.{Answer}
use Rattle.mps_command.specs.declared.command.Command.{Command}
use Rattle.mps_line.specs.Replies.{SpellsReply}
use Rattle.mps_line.specs.declared.write_replies.Reply.{Reply}
use Rattle.mps_line.specs.declared.write_replies.Reply.TheVariants.{Answer as Answered}
use Rattle.mps_room.specs.Journal as journals
use Rattle.mps_room.specs.Journal.{grown, MayAnswer}
use Rattle.mps_room.specs.Numbers.{IsNumbered}
use Rattle.mps_room.specs.declared.caller.Caller.{Ghosts}
use Rattle.mps_room.specs.declared.entry.Entry.{Entry}
use Rattle.mps_room.specs.declared.numbers.Told.{Told}
use Rattle.mps_wire.specs.Conversations.{IsToldAs}

-- the texts of old and a text that answers the role's command, and the journal after it
abbrev pub IsReplied : (names : List (List ℕ)) → List LocalType → (journal : List Entry) → ℕ → Command
    → (after : List Entry) → (old new : List ℕ) → Type 0
IsReplied names types journal role command after old new =
    (answer : Answer) × MayAnswer answer (journals.answer_to names types journal role command)
    × (after ≡ grown journal role command answer)
    × AppendsSuch (λ text. SpellsReply text (Answered answer)) old new

-- a command with a number was given, and the reply tells what came of it
pub record RepliesToNumbered {C : Type 0} (caller : Ghosts C) (c : C) (number : ℕ) (command : Command) (reply : Reply)
    (d : C) : Type 0 where
  pub came : Told
  pub numbered : IsNumbered caller.calls caller.last caller.kept c number command d came
  pub told : IsToldAs caller d came reply
