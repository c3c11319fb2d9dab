-- Proves the law `passes_may_cross_threads`, clauses `pass` and `leave`, by the lemmas of Crossing.
use Rattle.mps_cell.proofs.Crossing.{pass_send, leave_send}
use Rattle.mps_cell.proofs.laws.passes_may_cross_threads.Goals as goal

pub returns-clause-pass : goal.returns-clause-pass
returns-clause-pass c = pass_send

pub returns-clause-leave : goal.returns-clause-leave
returns-clause-leave c = leave_send
