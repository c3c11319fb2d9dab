-- How a conversation ends.
use Rattle.std.specs.Prelude.{ℕ, List}
use Rattle.std.specs.Io.KnownBytes.{Appends, Consumes, IsAtEnd}
use Rattle.mps_wire.specs.Answers.{Answering, BreaksOffInLast, OfWholeLines}
use Rattle.mps_wire.specs.Runs.{Going, ReadMost}
use Rattle.mps_wire.specs.Streams.{Streams, Counts, all_went_well, one_read_ended, one_read_failed, one_write_failed}
use Rattle.mps_wire.specs.declared.conversation.Ending.{Ending}
use Rattle.mps_wire.specs.declared.conversation.Ending.TheVariants.{Closed, ReadFault, WriteFault, Turns, Memory}
use Rattle.mps_wire.specs.declared.conversation.Ending.TheVariants.{Untold}

-- From a state on, whatever lines do to what state.
module _ {S : Type 0} (answers : Answering S) (start : S) (before after : Streams) where
  -- each whole line of what was read is answered
  pub record WasAnswered (st : S) : Type 0 where
    pub kept : List ℕ
    pub going : Going answers start before after kept st

module _ {S : Type 0} (answers broken : Answering S) (start : S) (before after : Streams) where
  -- the first of the whole lines of what was read are answered, and the last of these answers breaks off
  pub record WasBrokenOff (st : S) : Type 0 where
    pub read : List ℕ
    pub written : List ℕ
    pub bytes : Consumes before.left after.left read
    pub sent : Appends before.taken after.taken written
    pub answered : OfWholeLines read (λ lines. BreaksOffInLast answers start broken lines written st)

  -- what the lines came to, by how it ended
  abbrev pub EndedAs : S → Ending → Type 0
  EndedAs st Closed =
      WasAnswered answers start before after st × Counts before after one_read_ended × IsAtEnd after.left
  EndedAs st ReadFault = WasAnswered answers start before after st × Counts before after one_read_failed
  EndedAs st Turns =
      WasAnswered answers start before after st × Counts before after all_went_well × ReadMost before after
  EndedAs st WriteFault = WasBrokenOff st × Counts before after one_write_failed
  EndedAs st Memory = WasBrokenOff st × Counts before after all_went_well
  EndedAs st Untold = WasBrokenOff st × Counts before after all_went_well
