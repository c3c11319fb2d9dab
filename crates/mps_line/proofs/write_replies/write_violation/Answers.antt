-- `write_violation` meets its clause `ok`, by the lemmas of Writing.
use Rattle.std.specs.Prelude.{codes}
use Rattle.mps_base.proofs.Numbers.{appends_ok}
use Rattle.mps_command.specs.declared.answer.Violation.TheVariants.{Ended, WrongAct, WrongPeer, WrongSort, NoLabel, NothingQueued, Mismatch}
use Rattle.mps_line.proofs.Writing.{violation_line}
use Rattle.mps_line.proofs.write_replies.write_violation.Goals as goal

pub returns-in-Ended-clause-ok : goal.returns-in-Ended-clause-ok
returns-in-Ended-clause-ok c = rw c.in-Ended.is (appends_ok _ _ _ (codes "refused ended") _ c.extend_from_slice.ensures.items (violation_line Ended))

pub returns-in-WrongAct-clause-ok : goal.returns-in-WrongAct-clause-ok
returns-in-WrongAct-clause-ok c = rw c.in-WrongAct.is (appends_ok _ _ _ (codes "refused wrongact") _ c.extend_from_slice-in-WrongAct.ensures.items (violation_line WrongAct))

pub returns-in-WrongPeer-clause-ok : goal.returns-in-WrongPeer-clause-ok
returns-in-WrongPeer-clause-ok c = rw c.in-WrongPeer.is (appends_ok _ _ _ (codes "refused wrongpeer") _ c.extend_from_slice-in-WrongPeer.ensures.items (violation_line WrongPeer))

pub returns-in-WrongSort-clause-ok : goal.returns-in-WrongSort-clause-ok
returns-in-WrongSort-clause-ok c = rw c.in-WrongSort.is (appends_ok _ _ _ (codes "refused wrongsort") _ c.extend_from_slice-in-WrongSort.ensures.items (violation_line WrongSort))

pub returns-in-NoLabel-clause-ok : goal.returns-in-NoLabel-clause-ok
returns-in-NoLabel-clause-ok c = rw c.in-NoLabel.is (appends_ok _ _ _ (codes "refused nolabel") _ c.extend_from_slice-in-NoLabel.ensures.items (violation_line NoLabel))

pub returns-in-NothingQueued-clause-ok : goal.returns-in-NothingQueued-clause-ok
returns-in-NothingQueued-clause-ok c = rw c.in-NothingQueued.is (appends_ok _ _ _ (codes "refused nothingqueued") _ c.extend_from_slice-in-NothingQueued.ensures.items (violation_line NothingQueued))

pub returns-in-Mismatch-clause-ok : goal.returns-in-Mismatch-clause-ok
returns-in-Mismatch-clause-ok c = rw c.in-Mismatch.is (appends_ok _ _ _ (codes "refused mismatch") _ c.extend_from_slice-in-Mismatch.ensures.items (violation_line Mismatch))
