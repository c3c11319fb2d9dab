-- In each turn of the loop of `Tally::hear` what is heard with the rest is what was to be heard with all bytes.
use Rattle.std.proofs.Common.{ℕ, List, length}
use Rattle.mps_program.specs.Private.Heard.{IsHearing}
use Rattle.mps_program.proofs.tally.Tally.hear.Given as goal

abbrev pub decreases-lines : goal.decreases-lines
decreases-lines l = length l.rest

abbrev pub invariant-lines : goal.invariant-lines
invariant-lines l = (all : List ℕ) → IsHearing l.initial.self l.bytes all → IsHearing l.self l.rest all
