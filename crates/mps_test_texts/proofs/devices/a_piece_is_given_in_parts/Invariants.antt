-- In each turn of the loop of `a_piece_is_given_in_parts` the source was called once for each byte so far, and once before.
use Rattle.std.proofs.Common.{◌≡◌, ◌+◌}
use Rattle.mps_dev.specs.Pieces.{calls_of}
use Rattle.mps_test_texts.proofs.devices.a_piece_is_given_in_parts.Given as goal

abbrev pub invariant-loop-byte : goal.invariant-loop-byte
invariant-loop-byte g l = calls_of l.source ≡ l.byte-index + 1
