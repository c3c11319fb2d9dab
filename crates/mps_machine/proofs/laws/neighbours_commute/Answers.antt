-- Proves the law `neighbours_commute`, by the lemmas of Lawful.
use Rattle.mps_machine.proofs.Lawful.{exchanged}
use Rattle.mps_machine.proofs.laws.neighbours_commute.Goals as goal

pub returns : goal.returns
returns c = exchanged
