-- What one read and the answers to its lines come to.
use Rattle.std.specs.Prelude.{ℕ, Bool, true, false, List, Result, Ok, Err}
use Rattle.mps_wire.specs.declared.script.ReplayFault.{ReplayFault}
use Rattle.mps_wire.specs.declared.script.ReplayFault.TheVariants.{Open, ReadFault, WriteFault, Turns, Memory}
use Rattle.mps_wire.specs.Answers.{Answering}
use Rattle.mps_wire.specs.Runs.{Going, Stopped, Finished, GaveAtLeast, BreaksOff}
use Rattle.mps_wire.specs.Streams.{Streams, Counts, all_went_well, one_read_ended, one_read_failed, one_write_failed}

module _ {S : Type 0} (answers : Answering S) (start : S) (first before after : Streams) where
  -- what one read and its answers lead to, by their result
  abbrev pub Turned : List ℕ → S → Result Bool ReplayFault → Type 0
  Turned kept st (Ok true) = Finished answers start first after st × Counts before after one_read_ended
  Turned kept st (Ok false) = Going answers start first after kept st × Counts before after all_went_well
      × GaveAtLeast 1 before after
  Turned kept st (Err ReadFault) = Stopped answers start first after × Counts before after one_read_failed
  Turned kept st (Err WriteFault) = BreaksOff answers start first before after one_write_failed
  Turned kept st (Err Memory) = BreaksOff answers start first before after all_went_well
  Turned kept st (Err Turns) = ⊥
  Turned kept st (Err (Open fault)) = ⊥
