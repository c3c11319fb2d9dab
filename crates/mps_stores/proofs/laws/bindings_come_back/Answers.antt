-- Proves the law `bindings_come_back`.
use Rattle.mps_history.proofs.Slots.{unbound-bound}
use Rattle.mps_stores.proofs.laws.bindings_come_back.Goals as goal

pub returns : goal.returns
returns c slot key store = unbound-bound slot key store
