-- Proves the law `size_laws`, clauses `nodes` and `levels`, by the lemmas of Sizes.
use Rattle.std.proofs.Common.{[], arith}
use Rattle.mps_global.proofs.Sizes.{as_many, as_deep}
use Rattle.mps_global.proofs.faults.size_laws.Goals as goal

pub returns-clause-nodes : goal.returns-clause-nodes
returns-clause-nodes c = λ tree. as_many [] tree

pub returns-clause-levels : goal.returns-clause-levels
returns-clause-levels c = λ tree. omega (arith, as_deep [] tree)
