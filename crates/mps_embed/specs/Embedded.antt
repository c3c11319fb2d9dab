-- A room whose roles are called line by line.
use Rattle.std.specs.Prelude.{◌≡◌, ◌≢◌, ◌++◌, ℕ, Bool, true, false, if◌then◌else◌, List, [], Option, Some, None, Result, Ok, Err, All, length, slice_get, take, drop, option_and_then, codes}
use Rattle.mps_base.specs.Names.{IsName}
use Rattle.mps_base.specs.Spaced.{spaced}
use Rattle.mps_base.specs.Values.{SpellsValue}
use Rattle.mps_base.specs.declared.value.Value.{Value}
use Rattle.mps_command.specs.declared.answer.Answer.TheVariants.{Refused}
use Rattle.mps_command.specs.declared.answer.Refusal.{Refusal}
use Rattle.mps_command.specs.declared.command.Command.{Command}
use Rattle.mps_history.specs.Slots.{value_in}
use Rattle.mps_keeper.specs.Books.{Sealed}
use Rattle.mps_keeper.specs.Restored.{IsNext}
use Rattle.mps_line.specs.Replies.{SpellsReply}
use Rattle.mps_line.specs.declared.write_replies.Reply.{Reply}
use Rattle.mps_line.specs.declared.write_replies.Reply.TheVariants.{Answer as Answered, NoRole, Number as WrongNumber, Unkept}
use Rattle.mps_local.specs.Actions.{head}
use Rattle.mps_machine.specs.Machine.{view_of}
use Rattle.mps_machine.specs.View.{Participant}
use Rattle.mps_local.specs.declared.merging.Merging.{Merging}
use Rattle.mps_open.specs.Texts.{AreTypesOf}
use Rattle.mps_room.specs.Journal.{answer_to, refusal_of, run}
use Rattle.mps_room.specs.Numbers.{last_of, IsPosition}
use Rattle.mps_room.specs.RoomState.{RoomState}
use Rattle.mps_room.specs.contracts.solo.SoloCaller.TheImpl.{ghosts}
use Rattle.mps_room.specs.declared.numbers.Numbered.{Numbered}
use Rattle.mps_room.specs.declared.numbers.Numbers.{Numbers}
use Rattle.mps_room.specs.declared.numbers.Position.{Position}
use Rattle.mps_room.specs.declared.numbers.Position.TheVariants.{Last, Elsewhere}
use Rattle.mps_room.specs.declared.solo.Solo.{Solo}
use Rattle.mps_show.specs.Shown.{head_tokens}
use Rattle.mps_wire.specs.Conversations.{IsRequest, RepliesTo}
use Rattle.mps_wire.specs.Uncalled.{IsUnread, IsStarved}

-- such a room, as contracts see it
pub record EmbeddedState : Type 0 where
  pub room : RoomState
  -- of each role in order, the newest of its numbered commands that were accepted
  pub numbers : List Numbers
  -- the reply to the newest line
  pub reply : Reply
  -- whether accepted commands are recorded, what was taken of them, where that is known, and whether none is lost
  pub records : Bool
  pub taken : Option Sealed
  pub whole : Bool

-- this caller gives the commands of that role in the room
pub record IsCallerOf (e : EmbeddedState) (role : ℕ) (caller : Solo) : Type 0 where
  pub room : caller.room ≡ e.room
  pub role_is : caller.role ≡ role
  pub numbers : slice_get e.numbers role ≡ Some caller.numbers

-- The line of that role is answered as in a conversation of the role in that room; but where what it changes isn't recorded,
-- as one whose room is lost.
pub record IsAnswered (before : EmbeddedState) (role : ℕ) (line : List ℕ) (after : EmbeddedState) : Type 0 where
  pub caller : Solo
  pub begins : IsCallerOf before role caller
  pub left : Solo
  pub reply : Reply
  pub replies : RepliesTo ghosts false line caller reply left
  pub told : after.reply ≡ (if after.whole then reply else Unkept)
  pub ends : IsCallerOf after role left
  pub others : (other : ℕ) → other ≢ role → slice_get after.numbers other ≡ slice_get before.numbers other

-- only that reply is new
pub record IsOnlyTold (reply : Reply) (before after : EmbeddedState) : Type 0 where
  pub reply_is : after.reply ≡ reply
  pub room : after.room ≡ before.room
  pub numbers : after.numbers ≡ before.numbers
  pub records : after.records ≡ before.records
  pub taken : after.taken ≡ before.taken
  pub whole : after.whole ≡ before.whole

-- the room is new, and of the protocol that the text spells, by that kind of merging; before its first line the reply is
-- `refused norole`; nothing is recorded
pub record IsNewRoomOf (merging : Merging) (text : List ℕ) (e : EmbeddedState) : Type 0 where
  pub types : AreTypesOf merging text e.room.names e.room.types
  pub nothing : e.room.journal ≡ []
  pub unnumbered : All (λ n. n.newest ≡ None) e.numbers
  pub unanswered : e.reply ≡ NoRole
  pub unrecorded : e.records ≡ false
  pub whole : e.whole ≡ true

-- the newest numbered command of that role that was accepted, if one was
abbrev pub newest_at : EmbeddedState → ℕ → Option Numbered
newest_at e role = option_and_then (λ (n : Numbers). n.newest) (slice_get e.numbers role)

-- the refusal that is foreseen, if one is
abbrev pub foretold_of : Option Refusal → Result Unit Reply
foretold_of (Some refusal) = Err (Answered (Refused refusal))
foretold_of None = Ok tt

-- What is foreseen of a line of that role, were it given now: the reply that refuses it, or none.
module _ (e : EmbeddedState) (role : ℕ) (line : List ℕ) (foretold : Result Unit Reply) where
  -- it spells a command with a number that stands there
  pub record HasNumberAt (position : Position) : Type 0 where
    pub number : ℕ
    pub command : Command
    pub readable : IsRequest false e.room.names line (Some number) command
    pub stands : IsPosition (last_of (newest_at e role)) number position

  -- it spells a command that is called, by its number, or without one: what it would be answered, lack of memory aside
  pub record IsJudged : Type 0 where
    pub number : Option ℕ
    pub command : Command
    pub readable : IsRequest false e.room.names line number command
    pub next : IsNext (newest_at e role) number
    pub judged :
        foretold ≡ foretold_of (refusal_of (answer_to e.room.names e.room.types e.room.journal role command))

  -- of a room that isn't lost
  pub data ForetellsWhole : Type 0 where
    -- it can't be read, or there is no memory for its text
    Unread : (reply : Reply) → IsUnread (IsRequest false e.room.names line) e reply e → foretold ≡ Err reply
        → ForetellsWhole
    Starved : (reply : Reply) → IsStarved (IsRequest false e.room.names line) e reply e → foretold ≡ Err reply
        → ForetellsWhole
    -- it has the last number: its answer would be told again
    Again : HasNumberAt Last → foretold ≡ Ok tt → ForetellsWhole
    Misnumbered : HasNumberAt Elsewhere → foretold ≡ Err WrongNumber → ForetellsWhole
    Judged : IsJudged → ForetellsWhole

  -- what changes a lost room isn't recorded any more
  pub data Foretells : Type 0 where
    Lost : e.whole ≡ false → foretold ≡ Err Unkept → Foretells
    Whole : e.whole ≡ true → ForetellsWhole → Foretells

-- how what is foreseen is told
abbrev pub SpellsForesight : Result Unit Reply → List ℕ → Type 0
SpellsForesight (Ok done) text = text ≡ codes "accepted"
SpellsForesight (Err reply) text = SpellsReply text reply

-- the text tells what is foreseen of that line of whoever has the name
pub record IsForesight (e : EmbeddedState) (name line text : List ℕ) : Type 0 where
  pub foretold : Result Unit Reply
  pub spelled : SpellsForesight foretold text
  pub known : (place : ℕ) → slice_get e.room.names place ≡ Some name → Foretells e place line foretold
  pub unknown : All (λ other. other ≢ name) e.room.names → foretold ≡ Err NoRole

-- what is left of that role's type, and what is in its slots
abbrev pub participant_in : RoomState → ℕ → Participant
participant_in r role = (view_of r.types (run r.types r.journal).history).participant role

-- the text tells what the type of whoever has the name wants next
pub record IsWanted (e : EmbeddedState) (name text : List ℕ) : Type 0 where
  pub known : (place : ℕ) → slice_get e.room.names place ≡ Some name
      → text ≡ spaced (head_tokens e.room.names (head (participant_in e.room place).to_come))
  pub unknown : All (λ other. other ≢ name) e.room.names → text ≡ []

-- the text is the value that is there, or nothing
abbrev pub SpellsIfSome : Option Value → List ℕ → Type 0
SpellsIfSome (Some value) text = SpellsValue text value
SpellsIfSome None text = text ≡ []

-- the text is what whoever has the name has in the slot
pub record IsInSlot (e : EmbeddedState) (name slot text : List ℕ) : Type 0 where
  pub known : (place : ℕ) → slice_get e.room.names place ≡ Some name → IsName slot
      → SpellsIfSome (value_in slot (participant_in e.room place).store) text
  pub nameless : (IsName slot → ⊥) → text ≡ []
  pub unknown : All (λ other. other ≢ name) e.room.names → text ≡ []

-- the front of the text, in place of the front of the bytes: what fits
abbrev pub front_over : (text bytes : List ℕ) → List ℕ
front_over text bytes = take (length bytes) text ++ drop (length text) bytes

-- a text of that kind was written over the front of the bytes, as much of it as fits, and this is its whole length
pub record IsFilled (IsText : List ℕ → Type 0) (old new : List ℕ) (count : ℕ) : Type 0 where
  pub text : List ℕ
  pub kind : IsText text
  pub front : new ≡ front_over text old
  pub whole : count ≡ length text
