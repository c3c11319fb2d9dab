-- Proves the law `same_is_equality`, clauses `types` and `branches`, by the lemmas of Equal.
use Rattle.mps_local.proofs.Equal.{same_is, same_branches_is, same_of_equal, same_of_equal_branches}
use Rattle.mps_local.proofs.laws.same_is_equality.Goals as goal

pub returns-clause-types : goal.returns-clause-types
returns-clause-types c = λ t u. (same_is t u, same_of_equal t u)

pub returns-clause-branches : goal.returns-clause-branches
returns-clause-branches c = λ b d. (same_branches_is b d, same_of_equal_branches b d)
