-- In each turn of the loop of `read_many` the number is that of the digits so far.
use Rattle.mps_base.proofs.Digits.{IsRead}
use Rattle.mps_base.proofs.number.read_many.Given as goal

abbrev pub invariant-loop-byte : goal.invariant-loop-byte
invariant-loop-byte l = IsRead l.digits l.byte-index l.n
