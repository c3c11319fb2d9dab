-- What was written, and what comes of the bytes that are left, is all.
use Rattle.std.proofs.Common.{◌≡◌, ◌∷◌, ◌++◌, drop}
use Rattle.std.specs.List.{flat_map}
use Rattle.mps_watch.specs.Values.{escaped}
use Rattle.mps_watch.proofs.values.quoted.Given as goal

abbrev pub invariant-loop-byte : goal.invariant-loop-byte
invariant-loop-byte l = l.text.items ++ flat_map escaped (drop l.byte-index l.bytes) ≡ 34 ∷ flat_map escaped l.bytes
