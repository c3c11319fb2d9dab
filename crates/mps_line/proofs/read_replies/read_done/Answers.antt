-- `read_done` meets its clauses `read`, `bad` and `memory`, by the lemmas of Splitting and ReplyLines.
use Rattle.std.proofs.Common.{sym, ap, Err, Some}
use Rattle.std.specs.Prelude.{[]}
use Rattle.mps_line.specs.Replies.{message_token}
use Rattle.mps_line.specs.Tokens.{Number}
use Rattle.mps_line.proofs.Splitting.{line_of_one}
use Rattle.mps_line.proofs.ReplyLines.{no_done_alone, number_in_front, parted_done}
use Rattle.mps_line.proofs.read_replies.read_done.Goals as goal

pub returns-in-Some-read_step-clause-read : goal.returns-in-Some-read_step-clause-read
returns-in-Some-read_step-clause-read c = line_of_one [] _ (Number _) c.in-Some-read_step.ensures.read

pub returns-in-None-clause-bad : goal.returns-in-None-clause-bad
returns-in-None-clause-bad c = λ e done h. no_done_alone _ c.in_default.ensures.none c.in-None.ensures.none done h

pub returns-in_default-read_step-clause-bad : goal.returns-in_default-read_step-clause-bad
returns-in_default-read_step-clause-bad c = λ e done h.
    let k = parted_done _ _ _ done c.in-Some.ensures.parts c.in-Some.ensures.first h in c.in_default-read_step.ensures.none done.id k.1

pub returns-in_err-message-clause-bad : goal.returns-in_err-message-clause-bad
returns-in_err-message-clause-bad c = λ e done h.
    let k = parted_done _ _ _ done c.in-Some.ensures.parts c.in-Some.ensures.first h in c.in_err-message.ensures.bad (ap Err (sym (rw e at c.from_residual.ensures.1))) k.0 k.2

pub returns-in_err-message-clause-memory : goal.returns-in_err-message-clause-memory
returns-in_err-message-clause-memory c = λ e.
    let message = c.in_err-message.ensures.memory (ap Err (sym (rw e at c.from_residual.ensures.1))) in
    (record { id = _; got = Some message.0 }, number_in_front _ _ _ _ (message_token message.0) [] c.in-Some.ensures.parts c.in-Some-read_step-2.ensures.read (line_of_one [] _ (message_token message.0) message.1))
