-- What a connection comes to.
use Rattle.std.specs.Prelude.{◌≡◌, ◌≢◌, ℕ, ◌+◌, ◌-◌, ◌⊎◌, ⊤, Bool, List, Option, All}
use Rattle.std.specs.Io.KnownBytes.{Appends}
use Rattle.mps_cell.specs.Calls.{Known}
use Rattle.mps_dev.specs.declared.traits.Sink.{Ghosts as SinkGhosts}
use Rattle.mps_dev.specs.declared.traits.Source.{Ghosts as SourceGhosts}
use Rattle.mps_line.specs.Codes.{code_of}
use Rattle.mps_line.specs.Replies.{SpellsReply}
use Rattle.mps_line.specs.declared.write_replies.Reply.{Reply}
use Rattle.mps_line.specs.declared.write_replies.Reply.TheVariants.{Answer as Answered, BadLine, Joined, NoSession, NoRole, Taken}
use Rattle.mps_line.specs.declared.write_replies.Reply.TheVariants.{Busy, Elsewhere, Number as WrongNumber, Unkept}
use Rattle.mps_lines.specs.Lines.{ended}
use Rattle.mps_room.specs.declared.caller.Caller.{Ghosts}
use Rattle.mps_wire.specs.Endings.{EndedAs}
use Rattle.mps_wire.specs.Sending.{TookFront}
use Rattle.mps_wire.specs.Streams.{streams}
use Rattle.mps_wire.specs.Conversations.{ConversesLine, ConversesBrokenOff}
use Rattle.mps_wire.specs.declared.conversation.Ending.{Ending}
use Rattle.mps_wire.specs.declared.conversation.Ending.TheVariants.{Untold}
use Rattle.mps_hub.specs.First.{HasNoFirstLine, IsFirstLine, IsJoin}
use Rattle.mps_hub.specs.Places.{HasSuchRole, IsKeptBy, IsOpen, IsPassOf, Offer}
use Rattle.mps_hub.specs.Shares.{IsLeftOf}
use Rattle.mps_hub.specs.declared.attending.Attended.{Attended}
use Rattle.mps_hub.specs.declared.attending.Attended.TheVariants.{NoLine, TurnedAway, Conversed, Memory, Unrecorded}

-- the reply to a first line: that it is none, why it gets no pass, or that it joined
abbrev pub RepliesToFirst : {K : Type 0} → Offer → List (Option K) → List ℕ → Reply → Type 0
RepliesToFirst offer keepers line BadLine = (session : ℕ) (name : List ℕ) → IsJoin line session name → ⊥
RepliesToFirst offer keepers line NoSession =
    (session : ℕ) × (name : List ℕ) × IsJoin line session name × (¬ IsOpen offer keepers session)
RepliesToFirst offer keepers line NoRole = (session : ℕ) × (name : List ℕ) × IsJoin line session name
    × IsOpen offer keepers session × All (λ other. other ≢ name) offer.names
RepliesToFirst offer keepers line Taken = (session : ℕ) × (name : List ℕ) × IsJoin line session name
    × IsOpen offer keepers session × HasSuchRole offer session name
RepliesToFirst offer keepers line (Joined session name) =
    IsJoin line session name × IsOpen offer keepers session × HasSuchRole offer session name
RepliesToFirst offer keepers line WrongNumber = ⊥
RepliesToFirst offer keepers line Busy = ⊥
RepliesToFirst offer keepers line Unkept = ⊥
RepliesToFirst offer keepers line Elsewhere = ⊥
RepliesToFirst offer keepers line (Answered answer) = ⊥

-- the reply was written with its LF, and nothing else
pub record WasSent {W : Type 0} (sink : SinkGhosts W) (old new : W) (reply : Reply) : Type 0 where
  pub text : List ℕ
  pub spelled : SpellsReply text reply
  pub sent : Appends (sink.taken old) (sink.taken new) (ended text)
  pub no_failure : sink.failed_calls new ≡ sink.failed_calls old

-- the front of it was written, and then a write failed
pub record SendingBrokeOff {W : Type 0} (sink : SinkGhosts W) (old new : W) (reply : Reply) : Type 0 where
  pub text : List ℕ
  pub spelled : SpellsReply text reply
  pub front : TookFront (sink.taken old) (sink.taken new) (ended text)
  pub failed : sink.failed_calls new ≡ sink.failed_calls old + 1

-- what a caller that got its pass came to, once it was told so with this reply, where its lines may wait or may not
module _ {C R W : Type 0} (caller : Ghosts C) (waits : Bool) (source : SourceGhosts R) (sink : SinkGhosts W) (joined : Reply)
    (before : C) (reader : R) (writer : W) (after : C) (reader' : R) (writer' : W) where
  -- it was told so, and the lines that follow were its conversation
  pub record WasConversation (ending : Ending) : Type 0 where
    pub told : W
    pub sent : WasSent sink writer told joined
    pub ended : EndedAs (ConversesLine caller waits) (ConversesBrokenOff caller waits) before
        (streams source sink reader told) (streams source sink reader' writer') after ending

-- What one connection comes to: a reader and a writer, as they were before it and as they are after it.
module _ {C K R W : Type 0} (caller : Ghosts C) (pass : C → Known) (keeper : C → Option K) (left : C → Option ℕ)
    (source : SourceGhosts R) (sink : SinkGhosts W) (offer : Offer) (keepers : List (Option K)) (reader : R) (writer : W) (reader' : R) (writer' : W)
  where
    -- its first line was refused, or the first answer broke off
    pub record WasTurnedAway : Type 0 where
      pub kept : List ℕ
      pub first : IsFirstLine source reader reader' kept
      pub reply : Reply
      pub replies : RepliesToFirst offer keepers first.line reply
      pub written : (WasSent sink writer writer' reply × (code_of reply ≢ 0)) ⊎ SendingBrokeOff sink writer writer' reply

    -- it joined, and was answered so; and from there on its lines were a conversation of the pass that it asked for, within
    -- what was left of its role's share, which the session's own keeper recorded, if there are keepers
    pub record HasConversed (ending : Ending) : Type 0 where
      pub kept : List ℕ
      pub session : ℕ
      pub name : List ℕ
      pub joined : R
      pub first : IsFirstLine source reader joined kept
      pub joins : IsJoin first.line session name
      pub before : C
      pub after : C
      pub taken : IsPassOf offer session name (pass before)
      pub kept_by : IsKeptBy keepers (session - offer.first) (keeper before)
      pub shared : IsLeftOf offer.share (left before)
      pub conversed : WasConversation caller offer.waits source sink
          (Joined session name) before joined writer after reader' writer' ending

    -- by how it ended
    abbrev pub HasAttended : Attended → Type 0
    HasAttended NoLine = HasNoFirstLine source reader reader' × (writer' ≡ writer)
    HasAttended TurnedAway = WasTurnedAway
    HasAttended (Conversed ending) = HasConversed ending
    HasAttended Memory = writer' ≡ writer
    HasAttended Unrecorded = writer' ≡ writer

-- it did not end since lines were lost
abbrev pub EndsForNoLoss : Attended → Type 0
EndsForNoLoss Unrecorded = ⊥
EndsForNoLoss (Conversed Untold) = ⊥
EndsForNoLoss attended = ⊤
