-- Proves the law `bindings_are_steps`, by the lemmas of Bindings.
use Rattle.mps_stores.proofs.Bindings.{binding_is_step}
use Rattle.mps_stores.proofs.laws.bindings_are_steps.Goals as goal

pub returns : goal.returns
returns c = binding_is_step
