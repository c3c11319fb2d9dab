-- Proves the law `queues_are_what_is_unreceived`, by the lemmas of Unreceived.
use Rattle.mps_machine.specs.View.{opening}
use Rattle.mps_machine.proofs.Unreceived.{queue_is}
use Rattle.mps_machine.proofs.laws.queues_are_what_is_unreceived.Goals as goal

pub returns : goal.returns
returns c types h v p q e = queue_is (opening types) v h p q e
