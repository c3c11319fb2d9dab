-- Proves the law `a_commit_is_refused_as_final`, by the lemmas of Undoing.
use Rattle.mps_machine.proofs.Undoing.{refuses_final}
use Rattle.mps_machine.proofs.laws.a_commit_is_refused_as_final.Goals as goal

pub returns : goal.returns
returns c = refuses_final
