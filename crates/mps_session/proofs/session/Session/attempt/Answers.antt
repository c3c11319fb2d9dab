-- `Session::attempt` meets its clause `kind`.
use Rattle.mps_session.proofs.session.Session.attempt.Goals as goal

pub returns-in_ok-attempt_rollback-in-Rollback-clause-kind : goal.returns-in_ok-attempt_rollback-in-Rollback-clause-kind
returns-in_ok-attempt_rollback-in-Rollback-clause-kind c = rw c.in-Rollback.is (c.took_back.ensures.rollback c.in-Rollback.id)

pub returns-in_ok-attempt_back-in-Back-clause-kind : goal.returns-in_ok-attempt_back-in-Back-clause-kind
returns-in_ok-attempt_back-in-Back-clause-kind c = rw c.in-Back.is (c.took_back-in-Back.ensures.back c.in-Back.name)
