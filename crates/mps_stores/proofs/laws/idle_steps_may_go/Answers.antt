-- Proves the law `idle_steps_may_go`, by the lemmas of Bindings.
use Rattle.mps_stores.proofs.Bindings.{stores_idle_without}
use Rattle.mps_stores.proofs.laws.idle_steps_may_go.Goals as goal

pub returns : goal.returns
returns c = stores_idle_without
