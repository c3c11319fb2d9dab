-- In each turn of the loop of `handed_over` the sink took the bytes so far, and no write failed.
use Rattle.std.proofs.Common.{◌≡◌, ◌≤◌, length, take}
use Rattle.std.specs.Io.KnownBytes.{Appends}
use Rattle.mps_test_texts.proofs.devices.handed_over.Given as goal

abbrev pub invariant-loop-turn : goal.invariant-loop-turn
invariant-loop-turn g l = let k = g.K.Sink in record {
  failures : k.failed_calls l.sink ≡ k.failed_calls l.fn.sink;
  within : l.at ≤ length l.bytes;
  bytes : Appends (k.taken l.fn.sink) (k.taken l.sink) (take l.at l.bytes);
}
