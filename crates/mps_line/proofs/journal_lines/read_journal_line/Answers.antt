-- `read_journal_line` meets its clause `bad`, by the lemmas of JournalLines.
use Rattle.std.proofs.Common.{sym, ap, ◌∙◌, Err}
use Rattle.std.proofs.lemmas.Bool.{false≢true}
use Rattle.mps_line.proofs.JournalLines.{no_such_role, none_after, asks_as_well}
use Rattle.mps_line.proofs.journal_lines.read_journal_line.Goals as goal

pub returns-in_default-read_role-clause-bad : goal.returns-in_default-read_role-clause-bad
returns-in_default-read_role-clause-bad c = λ e role number command h.
    no_such_role _ _ _ _ c.in-Some.ensures.parts c.in-Some.ensures.first c.in_default-read_role.ensures.none role number command h

pub returns-in_err-number-clause-bad : goal.returns-in_err-number-clause-bad
returns-in_err-number-clause-bad c = λ e role number command h.
    none_after _ _ _ _ c.in-Some.ensures.parts c.in-Some.ensures.first (c.in_err-number.ensures.bad (ap Err (sym (rw e at c.from_residual.ensures.1)))) role number command h

pub returns-then-not-asks_for_change-clause-bad : goal.returns-then-not-asks_for_change-clause-bad
returns-then-not-asks_for_change-clause-bad c = λ e role number command h.
    false≢true (sym c.if-not-asks_for_change.true ∙ c.asks_for_change.ensures.1 (asks_as_well _ _ _ _ c.in-Some.ensures.parts c.in-Some.ensures.first role _ number _ command c.in_ok-number.ensures.read h))
