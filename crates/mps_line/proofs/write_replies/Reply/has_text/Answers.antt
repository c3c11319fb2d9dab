-- `Reply::has_text` meets its clause `text`, by the lemmas of Writing.
use Rattle.std.specs.Prelude.{codes}
use Rattle.mps_line.proofs.Writing.{bad_line, no_session, no_role, taken, wrong_number, busy, unkept, elsewhere}
use Rattle.mps_line.proofs.write_replies.Reply.has_text.Goals as goal

pub returns-in-BadLine-clause-text : goal.returns-in-BadLine-clause-text
returns-in-BadLine-clause-text c = (codes "refused line", rw c.in-BadLine.is bad_line)

pub returns-in-NoSession-clause-text : goal.returns-in-NoSession-clause-text
returns-in-NoSession-clause-text c = (codes "refused nosession", rw c.in-NoSession.is no_session)

pub returns-in-NoRole-clause-text : goal.returns-in-NoRole-clause-text
returns-in-NoRole-clause-text c = (codes "refused norole", rw c.in-NoRole.is no_role)

pub returns-in-Taken-clause-text : goal.returns-in-Taken-clause-text
returns-in-Taken-clause-text c = (codes "refused taken", rw c.in-Taken.is taken)

pub returns-in-Number-clause-text : goal.returns-in-Number-clause-text
returns-in-Number-clause-text c = (codes "refused number", rw c.in-Number.is wrong_number)

pub returns-in-Busy-clause-text : goal.returns-in-Busy-clause-text
returns-in-Busy-clause-text c = (codes "refused busy", rw c.in-Busy.is busy)

pub returns-in-Unkept-clause-text : goal.returns-in-Unkept-clause-text
returns-in-Unkept-clause-text c = (codes "refused journal", rw c.in-Unkept.is unkept)

pub returns-in-Elsewhere-clause-text : goal.returns-in-Elsewhere-clause-text
returns-in-Elsewhere-clause-text c = (codes "refused elsewhere", rw c.in-Elsewhere.is elsewhere)
