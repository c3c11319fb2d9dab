-- Proves the law `removals_commute`, by the lemmas of Least.
use Rattle.mps_history.proofs.Least.{both_removed, either_first, gone_with_first}
use Rattle.mps_history.proofs.removals_commute.Goals as goal

pub returns : goal.returns
returns c = record { both = both_removed; either_order = either_first; nothing_left = gone_with_first }
