-- `write_refused` meets its clause `ok`, by the lemmas of Writing.
use Rattle.std.specs.Prelude.{codes}
use Rattle.mps_base.proofs.Numbers.{appends_ok}
use Rattle.mps_line.proofs.Writing.{no_step, not_yours, step_before, no_mark, full, memory}
use Rattle.mps_line.proofs.write_replies.write_refused.Goals as goal

pub returns-in-NoStep-clause-ok : goal.returns-in-NoStep-clause-ok
returns-in-NoStep-clause-ok c = rw c.in-NoStep.is (appends_ok _ _ _ (codes "refused nostep") _ c.extend_from_slice.ensures.items no_step)

pub returns-in-NotYours-clause-ok : goal.returns-in-NotYours-clause-ok
returns-in-NotYours-clause-ok c = rw c.in-NotYours.is (appends_ok _ _ _ (codes "refused notyours") _ c.extend_from_slice-in-NotYours.ensures.items not_yours)

pub returns-in_ok-extend_from_slice-in-Final-clause-ok : goal.returns-in_ok-extend_from_slice-in-Final-clause-ok
returns-in_ok-extend_from_slice-in-Final-clause-ok c = rw c.in-Final.is (step_before _ _ _ _ (codes "final") _ c.in_ok-extend_from_slice-in-Final.ensures.items c.write_step.ensures.ok)

pub returns-in_ok-extend_from_slice-in-Needed-clause-ok : goal.returns-in_ok-extend_from_slice-in-Needed-clause-ok
returns-in_ok-extend_from_slice-in-Needed-clause-ok c = rw c.in-Needed.is (step_before _ _ _ _ (codes "needed") _ c.in_ok-extend_from_slice-in-Needed.ensures.items c.write_step-in-Needed.ensures.ok)

pub returns-in-NoMark-clause-ok : goal.returns-in-NoMark-clause-ok
returns-in-NoMark-clause-ok c = rw c.in-NoMark.is (appends_ok _ _ _ (codes "refused nomark") _ c.extend_from_slice-in-NoMark.ensures.items no_mark)

pub returns-in-Full-clause-ok : goal.returns-in-Full-clause-ok
returns-in-Full-clause-ok c = rw c.in-Full.is (appends_ok _ _ _ (codes "refused full") _ c.extend_from_slice-in-Full.ensures.items full)

pub returns-in-Memory-clause-ok : goal.returns-in-Memory-clause-ok
returns-in-Memory-clause-ok c = rw c.in-Memory.is (appends_ok _ _ _ (codes "refused memory") _ c.extend_from_slice-in-Memory.ensures.items memory)
