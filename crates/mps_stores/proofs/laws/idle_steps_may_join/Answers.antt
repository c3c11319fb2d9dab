-- Proves the law `idle_steps_may_join`, by the lemmas of Bindings.
use Rattle.mps_stores.proofs.Bindings.{stores_idle_push}
use Rattle.mps_stores.proofs.laws.idle_steps_may_join.Goals as goal

pub returns : goal.returns
returns c = stores_idle_push
