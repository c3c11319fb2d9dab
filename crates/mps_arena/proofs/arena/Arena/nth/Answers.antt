-- `Arena::nth` meets its contract and keeps what holds in each turn of its loop, by the lemmas of Walking.
use Rattle.std.proofs.Common.{◌≡◌, ◌+◌, suc, slice_get, sym, ap, ◌∙◌, arith}
use Rattle.std.proofs.lemmas.Option.{slice_get_past}
use Rattle.mps_arena.specs.KeyedSteps.{keys_of, any_step}
use Rattle.mps_arena.proofs.Walking.{all_keys, first_place, next_place, none_after}
use Rattle.mps_arena.proofs.arena.Arena.nth.Goals as goal

pub returns-then-k-len : goal.returns-then-k-len
returns-then-k-len c = grind (arith, all_keys, slice_get_past)

pub loop-init : goal.loop-init
loop-init c = sym (first_place c.args.self.now.keyed_steps) ∙ sym c.first.ensures ∙ c.in_ok-at.was

pub returns-in_err-at : goal.returns-in_err-at
returns-in_err-at c = grind (arith, none_after, first_place)

pub returns-in_err-at-2 : goal.returns-in_err-at-2
returns-in_err-at-2 c =
    let es = c.args.self.now.keyed_steps in
    let next = sym (next_place es c.len.ensures.sound.distinct c.loop.counter c.loop.at c.loop.invariant) ∙ sym c.next.ensures ∙ c.in_err-at-2.was in
    c.from_residual-in_err-at-2.ensures ∙ sym (none_after es (suc c.loop.counter) c.args.k (omega (arith, c.loop-test.true)) next)

pub loop-preserved : goal.loop-preserved
loop-preserved c =
    let es = c.args.self.now.keyed_steps in
    let more : c.loop.counter + 1 ≡ suc c.loop.counter = omega arith in
    ap (slice_get (keys_of any_step es)) more
    ∙ sym (next_place es c.len.ensures.sound.distinct c.loop.counter c.loop.at c.loop.invariant) ∙ sym c.next.ensures ∙ c.in_ok-at-2.was

pub returns : goal.returns
returns c = grind (arith, slice_get)
