-- Proves the law `one_fault`, clauses `one` and `none`, by the lemmas of OneFault.
use Rattle.mps_text.proofs.OneFault.{one_fault as one, only_memory}
use Rattle.mps_text.proofs.reading.one_fault.Goals as goal

pub returns-clause-one : goal.returns-clause-one
returns-clause-one c = one

pub returns-clause-none : goal.returns-clause-none
returns-clause-none c = only_memory
