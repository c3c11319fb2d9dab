-- Proves the law `a_legal_journal_runs_again`, clauses `answer` and `journal`, by the lemmas of Rerunning.
use Rattle.std.proofs.Common.{◌++◌, ◌∷◌, [], Bool, if◌then◌else◌, ap}
use Rattle.mps_keeper.proofs.Rerunning.{again, entry_at}
use Rattle.mps_keeper.proofs.laws.a_legal_journal_runs_again.Goals as goal

pub returns-clause-answer : goal.returns-clause-answer
returns-clause-answer c = again

pub returns-clause-journal : goal.returns-clause-journal
returns-clause-journal c = λ names types before e after legal. ap (λ (b : Bool). if b then before ++ e ∷ [] else before) (entry_at names types before e after legal).accepted
