-- The loop of `Global::drop` ends: what is left of the tree weighs less at each turn.
use Rattle.std.proofs.Common.{◌+◌}
use Rattle.mps_global.specs.Private.Weights.{weight, waiting_weight}
use Rattle.mps_global.proofs.Global.drop.Given as goal

abbrev pub decreases-loop-self : goal.decreases-loop-self
decreases-loop-self l = weight l.self + waiting_weight l.waiting
