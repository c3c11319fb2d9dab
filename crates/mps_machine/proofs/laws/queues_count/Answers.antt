-- Proves the law `queues_count`, by the lemmas of Stepping.
use Rattle.std.proofs.Common.{arith}
use Rattle.mps_machine.specs.View.{opening}
use Rattle.mps_machine.proofs.Stepping.{queue_count}
use Rattle.mps_machine.proofs.laws.queues_count.Goals as goal

pub returns : goal.returns
returns c types h v p q e = let count = queue_count (opening types) v h p q e in omega arith
