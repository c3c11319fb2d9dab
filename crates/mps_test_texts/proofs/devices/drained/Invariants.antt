-- In each turn of the loop of `drained` each turn is one call, and the bytes so far are what the source gave.
use Rattle.std.proofs.Common.{◌≡◌, ◌+◌}
use Rattle.std.specs.Io.KnownBytes.{Consumes}
use Rattle.mps_test_texts.proofs.devices.drained.Given as goal

abbrev pub invariant-loop-turn : goal.invariant-loop-turn
invariant-loop-turn g l = let s = g.S.Source in record {
  calls : s.calls l.source ≡ s.calls l.fn.source + l._turn;
  bytes : Consumes (s.remaining l.fn.source) (s.remaining l.source) l.bytes.items;
}
