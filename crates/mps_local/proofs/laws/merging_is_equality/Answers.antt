-- Proves the law `merging_is_equality`, by the lemmas of Merged.
use Rattle.mps_local.proofs.Merged.{merged_are, are_merged}
use Rattle.mps_local.proofs.laws.merging_is_equality.Goals as goal

pub returns : goal.returns
returns c = record { merged = λ b t. (merged_are b t, are_merged b t) }
