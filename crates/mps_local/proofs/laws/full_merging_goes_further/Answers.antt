-- Proves the law `full_merging_goes_further`, by the lemmas of Fuller.
use Rattle.mps_local.proofs.Fuller.{fuller}
use Rattle.mps_local.proofs.laws.full_merging_goes_further.Goals as goal

pub returns : goal.returns
returns c = fuller
