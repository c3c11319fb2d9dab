-- Proves the law `local_size_laws`, clauses `nodes` and `levels`, by the lemmas of Sizes.
use Rattle.std.proofs.Common.{[], arith}
use Rattle.mps_local.proofs.Sizes.{as_many, as_deep}
use Rattle.mps_local.proofs.faults.local_size_laws.Goals as goal

pub returns-clause-nodes : goal.returns-clause-nodes
returns-clause-nodes c = λ t. as_many [] t

pub returns-clause-levels : goal.returns-clause-levels
returns-clause-levels c = λ t. omega (arith, as_deep [] t)
