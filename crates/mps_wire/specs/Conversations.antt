-- What a conversation does to its caller, and what the caller is answered.
use Rattle.std.specs.Prelude.{◌≡◌, ◌⊎◌, Bool, true, false, ℕ, zero, suc, ◌≤◌, List, [], ◌++◌, length, Option, None, Some, ⊤}
use Rattle.std.specs.Str.{IsAscii}
use Rattle.mps_command.specs.declared.answer.Answer.{Answer}
use Rattle.mps_command.specs.declared.answer.Answer.TheVariants.{News, Refused}
use Rattle.mps_command.specs.declared.answer.Refusal.TheVariants.{Violation as Violates}
use Rattle.mps_command.specs.declared.answer.Violation.TheVariants.{NothingQueued}
use Rattle.mps_command.specs.declared.command.Command.{Command}
use Rattle.mps_line.specs.Commands.{SpellsNumbered, SpellsWait}
use Rattle.mps_line.specs.Replies.{SpellsReply}
use Rattle.mps_line.specs.declared.write_replies.Reply.{Reply}
use Rattle.mps_line.specs.declared.write_replies.Reply.TheVariants.{Answer as Answered, Number as WrongNumber}
use Rattle.mps_lines.specs.Lines.{ended, max_line}
use Rattle.mps_room.specs.Numbers.{IsNumbered}
use Rattle.mps_room.specs.declared.caller.Caller.{Ghosts}
use Rattle.mps_room.specs.declared.numbers.Told.{Told}
use Rattle.mps_room.specs.declared.numbers.Told.TheVariants.{Fresh, Kept, Wrong, Refused as CalledInVain}
use Rattle.mps_wire.specs.Uncalled.{IsUnread, IsStarved, MayAsk}
use Rattle.mps_wire.specs.declared.reply.Outcome.{Outcome}
use Rattle.mps_wire.specs.declared.reply.Outcome.TheVariants.{Reply as Said, Kept as AsKept}

-- a line that isn't too long, of bytes below 128, that spells a command, with a number or without one, which may be asked
-- where lines may wait, or may not
pub record IsRequest (waits : Bool) (names : List (List ℕ)) (line : List ℕ) (number : Option ℕ) (command : Command)
    : Type 0 where
  pub short : length line ≤ max_line
  pub ascii : IsAscii line
  pub spelled : SpellsNumbered names line number command
  pub allowed : MayAsk waits command

-- what is told of a command with a number, to a caller that is now d: the answer that it keeps, that the number is
-- wrong, or the refusal
abbrev pub IsToldAs : {C : Type 0} → Ghosts C → (d : C) → Told → Reply → Type 0
IsToldAs caller d Fresh reply = (answer : Answer) × (caller.kept d ≡ Some answer) × (reply ≡ Answered answer)
IsToldAs caller d Kept reply = (answer : Answer) × (caller.kept d ≡ Some answer) × (reply ≡ Answered answer)
IsToldAs caller d Wrong reply = reply ≡ WrongNumber
IsToldAs caller d (CalledInVain refusal) reply = reply ≡ Answered (Refused refusal)

-- the reply that an outcome stands for, to a caller that keeps this answer; one that keeps none had no right number
abbrev pub reply_of : Outcome → Option Answer → Reply
reply_of (Said reply) kept = reply
reply_of AsKept (Some answer) = Answered answer
reply_of AsKept None = WrongNumber

-- nothing, or the front of a text that spells the reply, with its LF
abbrev pub BeginsReply : Reply → List ℕ → Type 0
BeginsReply reply written =
    (written ≡ [])
    ⊎ ((text : List ℕ) × (unwritten : List ℕ) × SpellsReply text reply × (ended text ≡ written ++ unwritten))

-- What one line does to a caller whose lines may wait, or may not, where this one doesn't.
module _ {C : Type 0} (caller : Ghosts C) (waits : Bool) (line : List ℕ) (c : C) where
  -- a command without a number: the caller makes one call with it, whose answer is told; the last number and its
  -- answer stay
  pub record IsCalled (reply : Reply) (d : C) : Type 0 where
    pub command : Command
    pub readable : IsRequest waits (caller.names c) line None command
    pub answer : Answer
    pub call : caller.calls c command answer d
    pub last_stays : caller.last d ≡ caller.last c
    pub kept_stays : caller.kept d ≡ caller.kept c
    pub told : reply ≡ Answered answer

  -- a command with a number: it is called once, or not again, or not at all, and what came of it is told
  pub record IsNumberedCall (reply : Reply) (d : C) : Type 0 where
    pub number : ℕ
    pub command : Command
    pub readable : IsRequest waits (caller.names c) line (Some number) command
    pub came : Told
    pub numbered : IsNumbered caller.calls caller.last caller.kept c number command d came
    pub told : IsToldAs caller d came reply

  -- the reply to the line, and the caller after it
  pub data RepliesTo (reply : Reply) (d : C) : Type 0 where
    Unread : IsUnread (IsRequest waits (caller.names c) line) c reply d → RepliesTo reply d
    Called : IsCalled reply d → RepliesTo reply d
    Numbered : IsNumberedCall reply d → RepliesTo reply d
    Starved : IsStarved (IsRequest waits (caller.names c) line) c reply d → RepliesTo reply d

-- the reply only says that there is nothing yet: no message, or no news
abbrev pub IsNothingYet : Reply → Type 0
IsNothingYet (Answered (Refused (Violates NothingQueued))) = ⊤
IsNothingYet (Answered (News length [])) = ⊤
IsNothingYet reply = ⊥

-- so many replies to the line, where lines may wait, one after the other, each of which only says that there is nothing yet
abbrev pub LooksInVain : {C : Type 0} → Ghosts C → (line : List ℕ) → ℕ → C → C → Type 0
LooksInVain caller line zero c d = d ≡ c
LooksInVain {C} caller line (suc n) c d =
    (m : C) × (reply : Reply) × LooksInVain caller line n c m × RepliesTo caller true line m reply d
    × IsNothingYet reply

-- where lines may wait, this one does, for so many milliseconds at most, and is answered as the rest of it is
pub record IsWaitingLine (waits : Bool) (line : List ℕ) (limit : ℕ) (rest : List ℕ) : Type 0 where
  pub may : waits ≡ true
  pub short : length line ≤ max_line
  pub spelled : SpellsWait line limit rest

-- What one line does to a caller whose lines may wait, or may not.
module _ {C : Type 0} (caller : Ghosts C) (waits : Bool) (line : List ℕ) (c : C) where
  -- a line that waits: its rest gets replies that there is nothing yet, as many as they are, and then this one
  pub record RepliesLater (reply : Reply) (d : C) : Type 0 where
    pub limit : ℕ
    pub rest : List ℕ
    pub waiting : IsWaitingLine waits line limit rest
    pub looks : ℕ
    pub mid : C
    pub in_vain : LooksInVain caller rest looks c mid
    pub replies : RepliesTo caller true rest mid reply d

  -- the reply to the line, and the caller after it
  pub data RepliesInTime (reply : Reply) (d : C) : Type 0 where
    AtOnce : ((limit : ℕ) (rest : List ℕ) → IsWaitingLine waits line limit rest → ⊥) → RepliesTo caller waits line c reply d
        → RepliesInTime reply d
    Later : RepliesLater reply d → RepliesInTime reply d

  -- the text that answers the line, and the caller after it
  pub record RepliesInText (text : List ℕ) (d : C) : Type 0 where
    pub reply : Reply
    pub replies : RepliesInTime reply d
    pub spelled : SpellsReply text reply

  -- the text that answers the line, which may be told, and the caller after it
  pub record ConversesLine (text : List ℕ) (d : C) : Type 0 where
    pub line_is : RepliesInText text d
    pub aloud : caller.may_tell d ≡ true

  -- this front of a text that answers the line is written; nothing, where it may not be told
  pub record ConversesBrokenOff (written : List ℕ) (d : C) : Type 0 where
    pub reply : Reply
    pub replies : RepliesInTime reply d
    pub begun : BeginsReply reply written
    pub silent : caller.may_tell d ≡ false → written ≡ []
