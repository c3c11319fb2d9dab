-- The loop of `Local::drop` ends: what is left of the type weighs less at each turn.
use Rattle.std.proofs.Common.{◌+◌}
use Rattle.mps_local.specs.Private.Weights.{weight, waiting_weight}
use Rattle.mps_local.proofs.Local.drop.Given as goal

abbrev pub decreases-loop-self : goal.decreases-loop-self
decreases-loop-self l = weight l.self + waiting_weight l.waiting
