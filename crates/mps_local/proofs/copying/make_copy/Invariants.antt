-- In each turn of the loop of `make_copy` when what waits is made, it is the copy.
use Rattle.std.proofs.Common.{◌≡◌}
use Rattle.mps_local.specs.Private.Copying.{stacks, nothing_made, with_next, with_all, left_weight}
use Rattle.mps_local.proofs.copying.make_copy.Given as goal

-- when what waits is made, it is
abbrev pub invariant-loop-next : goal.invariant-loop-next
invariant-loop-next l = with_all l.waiting.items (stacks l.made) ≡ with_next l.fn.first nothing_made

abbrev pub decreases-loop-next : goal.decreases-loop-next
decreases-loop-next l = left_weight l.waiting.items
