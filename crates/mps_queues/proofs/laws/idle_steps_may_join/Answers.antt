-- Proves the law `idle_steps_may_join`, by the lemmas of Moves.
use Rattle.mps_queues.proofs.Moves.{idle_joins}
use Rattle.mps_queues.proofs.laws.idle_steps_may_join.Goals as goal

pub returns : goal.returns
returns c es e fronts idle f = idle_joins e idle es fronts f
