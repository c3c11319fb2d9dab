-- How often a source is read from.
use Rattle.std.specs.Prelude.{ℕ}

-- how often a run, a conversation, a first line or a journal is read from at most
abbrev pub max_reads : ℕ
max_reads = 1000000
