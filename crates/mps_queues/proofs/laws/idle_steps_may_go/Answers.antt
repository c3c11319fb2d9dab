-- Proves the law `idle_steps_may_go`, by the lemmas of Moves.
use Rattle.mps_queues.proofs.Moves.{idle_goes}
use Rattle.mps_queues.proofs.laws.idle_steps_may_go.Goals as goal

pub returns : goal.returns
returns c es e fronts idle sound found f = idle_goes e idle es fronts sound found f
