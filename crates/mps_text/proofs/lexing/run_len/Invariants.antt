-- In each turn of the loop of `run_len` all bytes so far are of the run, which goes on with the others.
use Rattle.std.proofs.Common.{◌≡◌, ◌+◌, drop}
use Rattle.mps_text.specs.Private.Lexing.{run_len}
use Rattle.mps_text.proofs.lexing.run_len.Given as goal

abbrev pub invariant-loop-byte : goal.invariant-loop-byte
invariant-loop-byte l = (l.len ≡ l.byte-index) × (l.len + run_len (drop l.byte-index l.bytes) ≡ run_len l.bytes)
