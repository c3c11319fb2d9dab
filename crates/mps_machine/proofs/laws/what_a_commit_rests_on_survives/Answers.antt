-- Proves the law `what_a_commit_rests_on_survives`, by the lemmas of Keeping.
use Rattle.mps_machine.proofs.Keeping.{keeps_commits}
use Rattle.mps_machine.proofs.laws.what_a_commit_rests_on_survives.Goals as goal

pub returns : goal.returns
returns c = keeps_commits
