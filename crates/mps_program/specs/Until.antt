-- What a clause reads of a script that is read until a refusal.
use Rattle.std.specs.Prelude.{ℕ}
use Rattle.mps_program.specs.declared.until.Until.{Until}

-- the source that is read
abbrev pub script_of : {S : Type 0} → Until S → S
script_of s = s.source

-- how often more was to be read after a refusal
abbrev pub late_reads_of : {S : Type 0} → Until S → ℕ
late_reads_of s = s.late
