-- Proves the law `rollbacks_commute`, by the lemmas of Rollbacks.
use Rattle.mps_machine.proofs.Rollbacks.{rollbacks_commute}
use Rattle.mps_machine.proofs.laws.rollbacks_commute.Goals as goal

pub returns : goal.returns
returns c = rollbacks_commute
