-- Proves the law `an_unneeded_step_can_be_removed`, by the lemmas of Lawful.
use Rattle.mps_machine.proofs.Lawful.{step_removed}
use Rattle.mps_machine.proofs.laws.an_unneeded_step_can_be_removed.Goals as goal

pub returns : goal.returns
returns c = step_removed
