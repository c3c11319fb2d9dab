-- What a script does to a room, and what it is answered.
use Rattle.std.specs.Prelude.{◌≡◌, ℕ, ◌≤◌, ◌⊎◌, false, List, length}
use Rattle.std.specs.Str.{IsAscii}
use Rattle.mps_local.specs.Local.{LocalType}
use Rattle.mps_command.specs.declared.command.Command.{Command}
use Rattle.mps_command.specs.declared.answer.Answer.{Answer}
use Rattle.mps_line.specs.Commands.{SpellsScriptLine}
use Rattle.mps_line.specs.Replies.{SpellsReply}
use Rattle.mps_line.specs.declared.write_replies.Reply.{Reply}
use Rattle.mps_line.specs.declared.write_replies.Reply.TheVariants.{Answer as Answered}
use Rattle.mps_room.specs.Journal as journals
use Rattle.mps_room.specs.Journal.{grown, MayAnswer}
use Rattle.mps_room.specs.declared.entry.Entry.{Entry}
use Rattle.mps_lines.specs.Lines.{max_line}
use Rattle.mps_wire.specs.Uncalled.{IsUnread, IsStarved, MayAsk}

-- a line that isn't too long, of bytes below 128, that spells a role's command
pub record IsReadable (names : List (List ℕ)) (line : List ℕ) (role : ℕ) (command : Command) : Type 0 where
  pub short : length line ≤ max_line
  pub ascii : IsAscii line
  pub spelled : SpellsScriptLine names line role command
  pub allowed : MayAsk false command

-- What one line does to a room, of which the journal tells how it stands.
module _ (names : List (List ℕ)) (types : List LocalType) (line : List ℕ) (journal : List Entry) where
  -- the role's command is answered as the room answers it, and joins the journal where that accepts it
  pub record IsApplied (reply : Reply) (after : List Entry) : Type 0 where
    pub role : ℕ
    pub command : Command
    pub readable : IsReadable names line role command
    pub answer : Answer
    pub told : reply ≡ Answered answer
    pub wanted : MayAnswer answer (journals.answer_to names types journal role command)
    pub joined : after ≡ grown journal role command answer

  -- the reply to the line, and the journal after it
  abbrev pub RepliesInScript : Reply → List Entry → Type 0
  RepliesInScript reply after =
      IsUnread (IsReadable names line) journal reply after
      ⊎ (IsApplied reply after ⊎ IsStarved (IsReadable names line) journal reply after)

  -- the text that answers the line, and the journal after it
  pub record AnswersLine (text : List ℕ) (after : List Entry) : Type 0 where
    pub reply : Reply
    pub replies : RepliesInScript reply after
    pub spelled : SpellsReply text reply
