-- Proves the law `a_last_step_is_alone`, clauses `alone` and `removed`, by the lemmas of Removal.
use Rattle.mps_history.proofs.Removal.{last_alone, without_last}
use Rattle.mps_history.proofs.a_last_step_is_alone.Goals as goal

pub returns-clause-alone : goal.returns-clause-alone
returns-clause-alone c = last_alone

pub returns-clause-removed : goal.returns-clause-removed
returns-clause-removed c = without_last
