-- Proves the law `projections_are_dual`, by the lemmas of Faithful.
use Rattle.mps_fidelity.proofs.Faithful.{faultless_dual}
use Rattle.mps_fidelity.proofs.laws.projections_are_dual.Goals as goal

pub returns : goal.returns
returns c = faultless_dual
