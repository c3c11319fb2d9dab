-- `Queues::nth` meets its contract and keeps what holds in each turn of its loop, by the lemmas of Moves.
use Rattle.std.proofs.Common.{suc, slice_get, sym, ◌∙◌, arith}
use Rattle.mps_queues.specs.Fronts.{waiting_keys}
use Rattle.mps_queues.proofs.Moves.{first_left, next_waiting, none_waits}
use Rattle.mps_queues.proofs.fronts.Queues.nth.Goals as goal

pub loop-init : goal.loop-init
loop-init c = grind (arith, first_left)

pub returns-in_err-at : goal.returns-in_err-at
returns-in_err-at c = grind (arith, first_left, none_waits)

pub returns-in_err-at-2 : goal.returns-in_err-at-2
returns-in_err-at-2 c =
    let es = c.args.arena.now.keyed_steps in
    let next = sym (next_waiting es c.steps_are_sound.ensures c.args.from c.args.to c.loop.counter c.loop.at c.loop.invariant) ∙ sym c.next_send.ensures ∙ c.in_err-at-2.was in
    c.from_residual-in_err-at-2.ensures ∙ sym (none_waits es c.steps_are_sound.ensures c.args.from c.args.to (suc c.loop.counter) c.args.k (omega (arith, c.loop-test.true)) next)

pub loop-preserved : goal.loop-preserved
loop-preserved c =
    let es = c.args.arena.now.keyed_steps in
    grind (arith, slice_get (waiting_keys es c.args.from c.args.to), next_waiting es c.steps_are_sound.ensures c.args.from c.args.to c.loop.counter c.loop.at c.loop.invariant)

pub returns : goal.returns
returns c = grind (arith, slice_get)
