-- In each turn of the loop of `first_left` what is left from there on is what was left at first.
use Rattle.std.proofs.Common.{length, ◌-◌, ◌≡◌, map, vec_items}
use Rattle.mps_dev.specs.Pieces.{left_from}
use Rattle.mps_dev.proofs.memory.first_left.Given as goal

abbrev pub invariant-loop-next : goal.invariant-loop-next
invariant-loop-next l =
    left_from l.next l.given (map vec_items l.pieces) ≡ left_from l.fn.next l.fn.given (map vec_items l.pieces)

abbrev pub decreases-loop-next : goal.decreases-loop-next
decreases-loop-next l = length l.pieces - l.next
