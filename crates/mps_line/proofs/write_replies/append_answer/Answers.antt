-- `append_answer` meets its clause `ok`, by the lemmas of Writing.
use Rattle.mps_line.proofs.Writing.{done_before, show_written}
use Rattle.mps_line.proofs.write_replies.append_answer.Goals as goal

pub returns-in_ok-extend_from_slice-in-Done-clause-ok :
    goal.returns-in_ok-extend_from_slice-in-Done-clause-ok
returns-in_ok-extend_from_slice-in-Done-clause-ok c =
    rw c.in-Done.is (done_before _ _ _ _ _ _ c.in_ok-extend_from_slice-in-Done.ensures.items c.write_done.ensures.ok)

pub returns-in-Shown-clause-ok : goal.returns-in-Shown-clause-ok
returns-in-Shown-clause-ok c =
    rw c.in-Shown.is (show_written _ _ _ _ _ c.extend_from_slice-in-Shown.ensures.items c.as_bytes.ensures.bytes c.as_bytes.ensures.shown)
