-- What a connection comes to, part by part.
use Rattle.std.specs.Prelude.{◌≡◌, ◌≢◌, ◌⊎◌, Bool}
use Rattle.mps_dev.specs.declared.traits.Sink.{Ghosts as SinkGhosts}
use Rattle.mps_dev.specs.declared.traits.Source.{Ghosts as SourceGhosts}
use Rattle.mps_line.specs.Codes.{code_of}
use Rattle.mps_line.specs.declared.write_replies.Reply.{Reply}
use Rattle.mps_room.specs.declared.caller.Caller.{Ghosts}
use Rattle.mps_hub.specs.Connections.{WasConversation, SendingBrokeOff, WasSent}
use Rattle.mps_hub.specs.declared.attending.Attended.{Attended}
use Rattle.mps_hub.specs.declared.attending.Attended.TheVariants.{NoLine, TurnedAway, Conversed, Memory, Unrecorded}

-- what the writer was given of the reply to a first line that gets no pass, by how the connection ended
abbrev pub IsAnsweredFirst : {W : Type 0} → SinkGhosts W → W → W → Reply → Attended → Type 0
IsAnsweredFirst sink old new reply NoLine = ⊥
IsAnsweredFirst sink old new reply TurnedAway =
    (WasSent sink old new reply × (code_of reply ≢ 0)) ⊎ SendingBrokeOff sink old new reply
IsAnsweredFirst sink old new reply (Conversed ending) = ⊥
IsAnsweredFirst sink old new reply Memory = new ≡ old
IsAnsweredFirst sink old new reply Unrecorded = ⊥

-- what a caller that got its pass came to, once it was told so with this reply
module _ {C R W : Type 0} (caller : Ghosts C) (waits : Bool) (source : SourceGhosts R) (sink : SinkGhosts W) (joined : Reply)
    (before : C) (reader : R) (writer : W) (after : C) (reader' : R) (writer' : W) where
  -- by how the connection ended
  abbrev pub CameOfJoining : Attended → Type 0
  CameOfJoining NoLine = ⊥
  CameOfJoining TurnedAway = SendingBrokeOff sink writer writer' joined × (reader' ≡ reader)
  CameOfJoining (Conversed ending) =
      WasConversation caller waits source sink joined before reader writer after reader' writer' ending
  CameOfJoining Memory = (writer' ≡ writer) × (reader' ≡ reader)
  CameOfJoining Unrecorded = (writer' ≡ writer) × (reader' ≡ reader)
