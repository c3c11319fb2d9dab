-- In each turn of the loop of `unblanked` what is left begins alike after its blanks.
use Rattle.std.proofs.Common.{◌≡◌, length}
use Rattle.mps_text.specs.Private.Lexing.{unblanked}
use Rattle.mps_text.proofs.lexing.unblanked.Given as goal

-- what is left begins alike after its blanks
abbrev pub invariant-loop-rest : goal.invariant-loop-rest
invariant-loop-rest l = unblanked l.rest ≡ unblanked l.bytes

abbrev pub decreases-loop-rest : goal.decreases-loop-rest
decreases-loop-rest l = length l.rest
