-- What a clause reads of a source and a sink.
use Rattle.std.specs.Prelude.{◌≡◌, ℕ, ◌+◌, List, Option}
use Rattle.mps_dev.specs.declared.traits.Source.{Ghosts as SourceGhosts}
use Rattle.mps_dev.specs.declared.traits.Sink.{Ghosts as SinkGhosts}

-- a source's and a sink's: the bytes that are left and those taken, where they are known, how many
-- reads there were, how many of them failed and how many ended, and how many writes failed
pub record Streams : Type 0 where
  pub left : Option (List ℕ)
  pub reads : ℕ
  pub failed_reads : ℕ
  pub ends : ℕ
  pub taken : Option (List ℕ)
  pub failed_writes : ℕ

-- the streams of a reader and a writer
abbrev pub streams : {R W : Type 0} → SourceGhosts R → SinkGhosts W → R → W → Streams
streams source sink reader writer = record {
  left = source.remaining reader;
  reads = source.calls reader;
  failed_reads = source.failed_calls reader;
  ends = source.ends reader;
  taken = sink.taken writer;
  failed_writes = sink.failed_calls writer;
}

-- what came of reads and writes that is counted: how many reads failed, how many ended, and how many writes failed
pub record Counted : Type 0 where
  pub failed_reads : ℕ
  pub ends : ℕ
  pub failed_writes : ℕ

abbrev pub all_went_well : Counted
all_went_well = record { failed_reads = 0; ends = 0; failed_writes = 0 }

abbrev pub one_read_failed : Counted
one_read_failed = record { failed_reads = 1; ends = 0; failed_writes = 0 }

abbrev pub one_read_ended : Counted
one_read_ended = record { failed_reads = 0; ends = 1; failed_writes = 0 }

abbrev pub one_write_failed : Counted
one_write_failed = record { failed_reads = 0; ends = 0; failed_writes = 1 }

-- the same, where the end was found too
abbrev pub at_the_end : Counted → Counted
at_the_end t = record t { ends = 1 }

-- so many more are counted
pub record Counts (before after : Streams) (t : Counted) : Type 0 where
  pub reads_failed : after.failed_reads ≡ before.failed_reads + t.failed_reads
  pub reads_ended : after.ends ≡ before.ends + t.ends
  pub writes_failed : after.failed_writes ≡ before.failed_writes + t.failed_writes
