-- Proves the law `local_fault_laws`, clauses `closed`, `guarded`, `unshadowed`, `labelled`, `limits`, `no_other` and 1 more, by the lemmas of Faultless and Told.
use Rattle.mps_local.proofs.Faultless.{fine_so, limits_so, faultless_so}
use Rattle.mps_local.proofs.Told.{no_memory}
use Rattle.mps_local.proofs.faults.local_fault_laws.Goals as goal

pub returns-clause-closed : goal.returns-clause-closed
returns-clause-closed c = λ t h. (fine_so t h).closed

pub returns-clause-guarded : goal.returns-clause-guarded
returns-clause-guarded c = λ t h. (fine_so t h).guarded

pub returns-clause-unshadowed : goal.returns-clause-unshadowed
returns-clause-unshadowed c = λ t h. (fine_so t h).unshadowed

pub returns-clause-labelled : goal.returns-clause-labelled
returns-clause-labelled c = λ t h. (fine_so t h).labelled

pub returns-clause-limits : goal.returns-clause-limits
returns-clause-limits c = limits_so

pub returns-clause-no_other : goal.returns-clause-no_other
returns-clause-no_other c = faultless_so

pub returns-clause-memory : goal.returns-clause-memory
returns-clause-memory c = no_memory
