-- In each turn of the loop of `read_few` the number is that of the digits so far, and as small as so many digits can be.
use Rattle.std.proofs.Common.{◌<◌, ◌^◌}
use Rattle.mps_base.proofs.Digits.{IsRead}
use Rattle.mps_base.proofs.number.read_few.Given as goal

abbrev pub invariant-loop-byte : goal.invariant-loop-byte
invariant-loop-byte l = IsRead l.digits l.byte-index l.n × (l.n < 10 ^ l.byte-index)
