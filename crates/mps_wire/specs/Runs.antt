-- What a run comes to, from the streams before it to those after.
use Rattle.std.specs.Prelude.{◌≡◌, ℕ, ◌+◌, ◌≤◌, ◌⊎◌, List, [], Result, Ok, Err, length}
use Rattle.std.specs.Io.KnownBytes.{Appends, Consumes, IsAtEnd}
use Rattle.mps_dev.specs.Reads.{max_reads}
use Rattle.mps_local.specs.Local.{LocalType}
use Rattle.mps_session.specs.Peers.{CanOpen, KeepsShut}
use Rattle.mps_session.specs.declared.open.OpenFault.{OpenFault}
use Rattle.mps_session.specs.declared.open.OpenFault.TheVariants.{RoleCount, BadPeer, Local, Memory as OutOfMemory}
use Rattle.mps_room.specs.RoomState.{RoomState}
use Rattle.mps_wire.specs.declared.script.ReplayFault.{ReplayFault}
use Rattle.mps_wire.specs.declared.script.ReplayFault.TheVariants.{Open, ReadFault, WriteFault, Turns, Memory}
use Rattle.mps_wire.specs.Answers.{Answering, AnswersBytes, AnswersLines, BreaksOffAnywhere, OfAllLines, OfWholeLines}
use Rattle.mps_wire.specs.Script.{AnswersLine}
use Rattle.mps_wire.specs.Streams.{Streams, Counts, Counted, all_went_well, at_the_end, one_read_ended, one_read_failed}
use Rattle.mps_wire.specs.Streams.{one_write_failed}

-- The lines of a source and the answers to a sink, from a state on.
module _ {S : Type 0} (answers : Answering S) (start : S) (before after : Streams) where
  -- what was read is answered line by line, and of a rest that no LF ends the front is kept
  pub record Going (kept : List ℕ) (st : S) : Type 0 where
    pub read : List ℕ
    pub out : List ℕ
    pub bytes : Consumes before.left after.left read
    pub sent : Appends before.taken after.taken out
    pub answered : AnswersBytes answers start read kept out st

  -- no more is read: each whole line of what was read is answered
  pub record Stopped : Type 0 where
    pub kept : List ℕ
    pub st : S
    pub going : Going kept st

  -- all that was to be read is answered, line by line, a rest that no LF ends too
  pub record Finished (st : S) : Type 0 where
    pub read : List ℕ
    pub out : List ℕ
    pub bytes : Consumes before.left after.left read
    pub over : IsAtEnd after.left
    pub sent : Appends before.taken after.taken out
    pub answered : OfAllLines read (λ lines. AnswersLines answers lines start out st)

  -- before the end: what was written are answers to the first whole lines of what was read, up to some place in the
  -- answers
  pub record BrokeOffBeforeEnd : Type 0 where
    pub read : List ℕ
    pub written : List ℕ
    pub bytes : Consumes before.left after.left read
    pub sent : Appends before.taken after.taken written
    pub answered : OfWholeLines read (λ lines. BreaksOffAnywhere answers start lines written)

  -- at the end: the same, where a rest that no LF ends is a line too
  pub record BrokeOffAtEnd : Type 0 where
    pub read : List ℕ
    pub written : List ℕ
    pub bytes : Consumes before.left after.left read
    pub over : IsAtEnd after.left
    pub sent : Appends before.taken after.taken written
    pub answered : OfAllLines read (λ lines. BreaksOffAnywhere answers start lines written)

-- the source gave so many bytes, or more
pub record GaveAtLeast (count : ℕ) (before after : Streams) : Type 0 where
  pub read : List ℕ
  pub bytes : Consumes before.left after.left read
  pub many : count ≤ length read

-- it was read from as often as it may be, and gave as many bytes or more
pub record ReadMost (before after : Streams) : Type 0 where
  pub reads : after.reads ≡ before.reads + max_reads
  pub gave : GaveAtLeast max_reads before after

module _ {S : Type 0} (answers : Answering S) (start : S) (first before after : Streams) where
  -- the answers break off after so much was counted, before the end was found or with it; first are the streams before
  -- the run
  abbrev pub BreaksOff : Counted → Type 0
  BreaksOff t =
      (BrokeOffBeforeEnd answers start first after × Counts before after t)
      ⊎ (BrokeOffAtEnd answers start first after × Counts before after (at_the_end t))

module _ {S : Type 0} (answers : Answering S) (start : S) (before after : Streams) where
  -- what a run comes to that began, by its result: what was answered, and what was counted
  abbrev pub Ran : Result S ReplayFault → Type 0
  Ran (Ok st) = Finished answers start before after st × Counts before after one_read_ended
  Ran (Err ReadFault) = Stopped answers start before after × Counts before after one_read_failed
  Ran (Err Turns) = Stopped answers start before after × Counts before after all_went_well
      × ReadMost before after
  Ran (Err WriteFault) = BreaksOff answers start before before after one_write_failed
  Ran (Err Memory) = BreaksOff answers start before before after all_went_well
  Ran (Err (Open fault)) = ⊥

-- how a session that can't be opened is reported
abbrev pub of_opening : OpenFault → ReplayFault
of_opening OutOfMemory = Memory
of_opening RoleCount = Open RoleCount
of_opening (BadPeer role) = Open (BadPeer role)
of_opening (Local role fault) = Open (Local role fault)

module _ (names : List (List ℕ)) (types : List LocalType) (before after : Streams) where
  -- what the run of a script comes to in a new room of these names and types
  abbrev pub ScriptRan : Result RoomState ReplayFault → Type 0
  ScriptRan (Ok room) = Ran (AnswersLine names types) [] before after (Ok room.journal)
      × (room.names ≡ names) × (room.types ≡ types)
  ScriptRan (Err fault) = Ran (AnswersLine names types) [] before after (Err fault)

  -- what the run of a script comes to where the session is opened first: it is opened with the types and the
  -- script run; or it can't be opened, and nothing is read or written
  abbrev pub Replayed : Result RoomState ReplayFault → Type 0
  Replayed (Ok room) = CanOpen types × ScriptRan (Ok room)
  Replayed (Err (Open fault)) = KeepsShut types fault × (after ≡ before)
  Replayed (Err fault) = CanOpen types × ScriptRan (Err fault)
