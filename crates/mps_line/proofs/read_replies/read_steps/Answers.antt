-- `read_steps` meets its clauses `bad` and `read` and keeps what holds in each turn of its loop, by the lemmas of ReplyLines.
use Rattle.mps_line.proofs.ReplyLines.{reads_none, reads_more, reads_last, no_next_step, no_last_step, shorter}
use Rattle.mps_line.proofs.read_replies.read_steps.Goals as goal

pub loop-parts-init : goal.loop-parts-init
loop-parts-init c = rw c.new-ids.ensures.items (reads_none c.args.bytes.now)

pub loop-parts-preserved : goal.loop-parts-preserved
loop-parts-preserved c =
    reads_more _ _ _ _ _ _ _ c.loop-parts.invariant c.in-Some.ensures.parts c.in-Some.ensures.first c.in-Some-read_step.ensures.read c.in_ok-push.ensures.items

pub loop-parts-smaller : goal.loop-parts-smaller
loop-parts-smaller c = rw c.in-Some.ensures.parts (shorter c.in-Some.parts.0.now c.in-Some.parts.1.now)

pub returns-in_default-read_step-clause-bad : goal.returns-in_default-read_step-clause-bad
returns-in_default-read_step-clause-bad c = λ e ids h.
    no_next_step _ _ _ _ _ c.loop-parts.invariant c.in-Some.ensures.parts c.in-Some.ensures.first c.in_default-read_step.ensures.none ids h

pub returns-in_default-read_step-2-clause-bad : goal.returns-in_default-read_step-2-clause-bad
returns-in_default-read_step-2-clause-bad c = λ e ids h.
    no_last_step _ _ _ c.loop-parts.invariant c.in_default.ensures.none c.in_default-read_step-2.ensures.none ids h

pub returns-clause-read : goal.returns-clause-read
returns-clause-read c =
    reads_last _ _ _ _ _ c.loop-parts.invariant c.in-Some-read_step-2.ensures.read c.in_ok-push-2.ensures.items
