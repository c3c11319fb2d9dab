-- What a clause reads of a device over a reader or a writer of std.
use Rattle.std.specs.Prelude.{ℕ}
use Rattle.mps_dev.specs.declared.standard.OverRead.{OverRead}
use Rattle.mps_dev.specs.declared.standard.OverWrite.{OverWrite}

-- the reader that a source reads from
abbrev pub reader_of : {R : Type 0} → OverRead R → R
reader_of s = s.inner

-- how many times it was read from
abbrev pub calls_of : {R : Type 0} → OverRead R → ℕ
calls_of s = s.calls

-- how many of these reads failed
abbrev pub failed_reads_of : {R : Type 0} → OverRead R → ℕ
failed_reads_of s = s.failed_calls

-- how many of them ended
abbrev pub ends_of : {R : Type 0} → OverRead R → ℕ
ends_of s = s.ends

-- the writer that a sink writes to
abbrev pub writer_of : {W : Type 0} → OverWrite W → W
writer_of s = s.inner

-- how many writes to it failed
abbrev pub failed_writes_of : {W : Type 0} → OverWrite W → ℕ
failed_writes_of s = s.failed_calls
