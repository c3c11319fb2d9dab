-- Proves the law `found_by_number`, clauses `found` and `only`, by the lemmas of Order.
use Rattle.mps_history.proofs.Order.{step_of_member, step_of_found}
use Rattle.mps_history.proofs.found_by_number.Goals as goal

pub returns-clause-found : goal.returns-clause-found
returns-clause-found c = step_of_member

pub returns-clause-only : goal.returns-clause-only
returns-clause-only c = step_of_found
