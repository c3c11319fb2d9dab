-- Proves the law `consequences_are_least`, by the lemmas of Least.
use Rattle.mps_history.proofs.Least.{consequences_within}
use Rattle.mps_history.proofs.consequences_are_least.Goals as goal

pub returns : goal.returns
returns c h n set t closed has i e = consequences_within h set closed n has t i e
