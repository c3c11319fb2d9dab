-- Proves the law `projections_have_no_fault`, by the lemmas of Faultless.
use Rattle.mps_local.proofs.Faultless.{faultless}
use Rattle.mps_local.proofs.faults.projections_have_no_fault.Goals as goal

pub returns : goal.returns
returns c = faultless
