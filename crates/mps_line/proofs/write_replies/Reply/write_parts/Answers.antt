-- `Reply::write_parts` meets its clause `ok`, by the lemmas of Writing.
use Rattle.std.specs.Prelude.{codes}
use Rattle.mps_base.proofs.Numbers.{appends_ok}
use Rattle.mps_line.proofs.Writing.{no_session, no_role, taken, wrong_number, busy, unkept, elsewhere}
use Rattle.mps_line.proofs.write_replies.Reply.write_parts.Goals as goal

pub returns-in-NoSession-clause-ok : goal.returns-in-NoSession-clause-ok
returns-in-NoSession-clause-ok c = rw c.in-NoSession.is (appends_ok _ _ _ (codes "refused nosession") _ c.extend_from_slice.ensures.items no_session)

pub returns-in-NoRole-clause-ok : goal.returns-in-NoRole-clause-ok
returns-in-NoRole-clause-ok c = rw c.in-NoRole.is (appends_ok _ _ _ (codes "refused norole") _ c.extend_from_slice-in-NoRole.ensures.items no_role)

pub returns-in-Taken-clause-ok : goal.returns-in-Taken-clause-ok
returns-in-Taken-clause-ok c = rw c.in-Taken.is (appends_ok _ _ _ (codes "refused taken") _ c.extend_from_slice-in-Taken.ensures.items taken)

pub returns-in-Number-clause-ok : goal.returns-in-Number-clause-ok
returns-in-Number-clause-ok c = rw c.in-Number.is (appends_ok _ _ _ (codes "refused number") _ c.extend_from_slice-in-Number.ensures.items wrong_number)

pub returns-in-Busy-clause-ok : goal.returns-in-Busy-clause-ok
returns-in-Busy-clause-ok c = rw c.in-Busy.is (appends_ok _ _ _ (codes "refused busy") _ c.extend_from_slice-in-Busy.ensures.items busy)

pub returns-in-Unkept-clause-ok : goal.returns-in-Unkept-clause-ok
returns-in-Unkept-clause-ok c = rw c.in-Unkept.is (appends_ok _ _ _ (codes "refused journal") _ c.extend_from_slice-in-Unkept.ensures.items unkept)

pub returns-in-Elsewhere-clause-ok : goal.returns-in-Elsewhere-clause-ok
returns-in-Elsewhere-clause-ok c = rw c.in-Elsewhere.is (appends_ok _ _ _ (codes "refused elsewhere") _ c.extend_from_slice-in-Elsewhere.ensures.items elsewhere)
