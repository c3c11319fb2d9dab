-- `asked_for` meets its clause `none`.
use Rattle.mps_hub.proofs.first.asked_for.Goals as goal

pub returns-in-Err-Bad-clause-none : goal.returns-in-Err-Bad-clause-none
returns-in-Err-Bad-clause-none c = λ session name j. c.in-Err-Bad.ensures.bad (cc) session name j.spelled
