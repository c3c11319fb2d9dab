-- `done_reply` meets its clauses `bad`, `read` and `memory`, by the lemmas of ReplyLines.
use Rattle.std.proofs.Common.{rules, sym, ap, Err}
use Rattle.std.specs.Prelude.{codes}
use Rattle.mps_command.specs.declared.answer.Answer.TheVariants.{Done as Accepted}
use Rattle.mps_line.specs.declared.write_replies.Reply.TheVariants.{Answer as Answered}
use Rattle.mps_line.specs.Replies.{done_tokens}
use Rattle.mps_line.proofs.ReplyLines.{word_in_front, rest_of_word, no_word_in_front, some_done}
use Rattle.mps_line.proofs.read_replies.done_reply.Goals as goal

pub returns-in_default-clause-bad : goal.returns-in_default-clause-bad
returns-in_default-clause-bad c = λ e done h.
    no_word_in_front _ (codes "done") (done_tokens done.id done.got) (some_done done) c.in_default.ensures.none h

pub returns-in_err-done-clause-bad : goal.returns-in_err-done-clause-bad
returns-in_err-done-clause-bad c = λ e done h.
    c.in_err-done.ensures.bad (ap Err (sym (rw e at c.from_residual.ensures.1))) done (rest_of_word _ (codes "done") _ (done_tokens done.id done.got) (some_done done) (search rules) c.in-Some.ensures.read h)

pub returns-clause-read : goal.returns-clause-read
returns-clause-read c = word_in_front _ (codes "done") _ _ (some_done c.in_ok-done.done) c.in-Some.ensures.read c.in_ok-done.ensures.read

pub returns-in_err-done-clause-memory : goal.returns-in_err-done-clause-memory
returns-in_err-done-clause-memory c = λ e.
    let done = c.in_err-done.ensures.memory (ap Err (sym (rw e at c.from_residual.ensures.1))) in
    (Answered (Accepted done.0), word_in_front _ (codes "done") _ _ (some_done done.0) c.in-Some.ensures.read done.1)
