-- Proves the law `consequences_can_be_removed`, by the lemmas of Apart.
use Rattle.mps_history.specs.Dependence.{consequences}
use Rattle.mps_history.proofs.Reaching.{consequences_closed}
use Rattle.mps_machine.proofs.Apart.{left_out}
use Rattle.mps_machine.proofs.laws.consequences_can_be_removed.Goals as goal

pub returns : goal.returns
returns c types h n w r e = left_out (consequences h n) types h w r (consequences_closed h n r) e
