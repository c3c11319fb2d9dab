-- `undone_reply` meets its clauses `read`, `bad` and `memory`, by the lemmas of Splitting and ReplyLines.
use Rattle.std.specs.Prelude.{◌≡◌, []}
use Rattle.mps_command.specs.declared.answer.Answer.TheVariants.{Undone}
use Rattle.mps_line.specs.declared.write_replies.Reply.TheVariants.{Answer as Answered}
use Rattle.std.proofs.Common.{rules, sym, ap, Err}
use Rattle.mps_line.proofs.Splitting.{is_word, is_no_word}
use Rattle.mps_line.proofs.ReplyLines.{undone_none, undone_some, undone_steps, steps_of_undone}
use Rattle.mps_line.proofs.read_replies.undone_reply.Goals as goal

pub returns-then-eq-clause-read : goal.returns-then-eq-clause-read
returns-then-eq-clause-read c =
    let none : c.of.result ≡ [] = search rules in rw none (undone_none _ (is_word _ _ _ _ c.eq.ensures c.if-eq.true c.as_slice.ensures))

pub returns-in_default-clause-bad : goal.returns-in_default-clause-bad
returns-in_default-clause-bad c = λ e ids h. let k = undone_steps _ ids (is_no_word _ _ _ _ c.eq.ensures c.if-eq.false c.as_slice.ensures) h in c.in_default.ensures.none k.0 k.1

pub returns-in_err-ids-clause-bad : goal.returns-in_err-ids-clause-bad
returns-in_err-ids-clause-bad c = λ e ids h.
    c.in_err-ids.ensures.bad (ap Err (sym (rw e at c.from_residual.ensures.1))) ids (steps_of_undone _ _ ids (is_no_word _ _ _ _ c.eq.ensures c.if-eq.false c.as_slice.ensures) c.in-Some.ensures.read h)

pub returns-clause-read : goal.returns-clause-read
returns-clause-read c = rw c.of-2.ensures (undone_some _ _ _ c.in-Some.ensures.read c.in_ok-ids.ensures.read)

pub returns-in_err-ids-clause-memory : goal.returns-in_err-ids-clause-memory
returns-in_err-ids-clause-memory c = λ e.
    let ids = c.in_err-ids.ensures.memory (ap Err (sym (rw e at c.from_residual.ensures.1))) in
    (Answered (Undone ids.0), undone_some _ _ _ c.in-Some.ensures.read ids.1)
