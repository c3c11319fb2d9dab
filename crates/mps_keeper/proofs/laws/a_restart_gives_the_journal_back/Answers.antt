-- Proves the law `a_restart_gives_the_journal_back`, clauses `journal` and `newest`, by the lemmas of Restarting.
use Rattle.std.proofs.Common.{[], refl}
use Rattle.mps_keeper.proofs.Restarting.{again}
use Rattle.mps_keeper.proofs.laws.a_restart_gives_the_journal_back.Goals as goal

pub returns-clause-journal : goal.returns-clause-journal
returns-clause-journal c = λ names types journal lines numbers newest after distinct legal spelled restored.
    (again names types distinct c.one_journal_line.ensures.role c.one_journal_line.ensures.number c.one_journal_line.ensures.command [] lines numbers journal _ after refl legal.each spelled restored).0

pub returns-clause-newest : goal.returns-clause-newest
returns-clause-newest c = λ names types journal lines numbers newest after distinct legal spelled restored.
    (again names types distinct c.one_journal_line.ensures.role c.one_journal_line.ensures.number c.one_journal_line.ensures.command [] lines numbers journal _ after refl legal.each spelled restored).1
