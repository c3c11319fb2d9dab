-- In each turn of the loop of `are_plain` the flag says whether each byte so far may stand in a text.
use Rattle.std.proofs.Common.{take, IsTrue, ◌↔◌}
use Rattle.std.specs.List.{AllByRecursion}
use Rattle.mps_base.specs.Texts.{IsPlainByte}
use Rattle.mps_base.proofs.value.are_plain.Given as goal

abbrev pub invariant-loop-byte : goal.invariant-loop-byte
invariant-loop-byte l = IsTrue l.plain ↔ AllByRecursion IsPlainByte (take l.byte-index l.bytes)
