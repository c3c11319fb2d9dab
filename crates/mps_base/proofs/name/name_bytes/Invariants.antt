-- In each turn of the loop of `name_bytes` the word has the bytes so far, and each may stand in a name.
use Rattle.std.proofs.Common.{◌≡◌, take, IsTrue}
use Rattle.std.specs.List.{AllByRecursion}
use Rattle.mps_base.specs.Names.{is_name_byte}
use Rattle.mps_base.proofs.name.name_bytes.Given as goal

abbrev pub invariant-loop-byte : goal.invariant-loop-byte
invariant-loop-byte l = (l.word ≡ take l.byte-index l.bytes) × AllByRecursion (λ c. IsTrue (is_name_byte c)) (take l.byte-index l.bytes)
