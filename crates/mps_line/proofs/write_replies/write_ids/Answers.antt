-- `write_ids` meets its clause `ok` and keeps what holds in each turn of its loop, by the lemmas of Writing.
use Rattle.std.proofs.Common.{arith, [], sym, append-nil}
use Rattle.std.proofs.lemmas.List.{take_all}
use Rattle.mps_line.proofs.Writing.{none_written, number_written, text_written}
use Rattle.mps_line.proofs.write_replies.write_ids.Goals as goal

pub loop-id-init : goal.loop-id-init
loop-id-init c = (([], sym (append-nil _), tt), λ start first others a. none_written first others _ _ a)

pub loop-id-preserved : goal.loop-id-preserved
loop-id-preserved c = (
  text_written _ _ _ _ _ c.loop-id.invariant.0 c.in_ok-push.ensures.items c.in_ok-write_step.ensures.ok,
  λ start first others a.
      number_written first others c.args.ids.now c.loop-id.id-index _ _ _ _ _ (omega arith) (c.loop-id.invariant.1 start first others a) c.in_ok-push.ensures.items (rw c.id-item.is at c.in_ok-write_step.ensures.ok),
)

pub returns-clause-ok : goal.returns-clause-ok
returns-clause-ok c = rw (take_all c.loop-id.id-index c.args.ids.now (omega arith)) at c.loop-id.invariant.1
