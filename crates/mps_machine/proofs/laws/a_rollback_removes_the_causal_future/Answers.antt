-- Proves the law `a_rollback_removes_the_causal_future`, by the lemmas of Undoing.
use Rattle.mps_machine.proofs.Undoing.{removes_futures}
use Rattle.mps_machine.proofs.laws.a_rollback_removes_the_causal_future.Goals as goal

pub returns : goal.returns
returns c = removes_futures
