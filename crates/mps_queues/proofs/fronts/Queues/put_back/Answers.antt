-- `Queues::put_back` meets its contract, by the lemmas of Moves.
use Rattle.std.proofs.Common.{arith, not}
use Rattle.std.specs.Prelude.{◌==◌}
use Rattle.std.specs.List.{filter}
use Rattle.mps_arena.specs.KeyedSteps.{KeyedStep}
use Rattle.mps_queues.proofs.Moves.{front_set, front_read, waiting_return, others_return}
use Rattle.mps_queues.proofs.fronts.Queues.put_back.Goals as goal

pub returns : goal.returns
returns c k e =
    let p = c.args.from in
    let q = c.args.to in
    let es = c.args.arena.now.keyed_steps in
    let now = filter (λ (x : KeyedStep). not (x.key == k)) es in
    let fronts = c.self.inside.fronts in
    grind (arith, front_read fronts es p q, waiting_return es c.steps_are_sound.ensures p q k e, front_set fronts es now p q, others_return es c.steps_are_sound.ensures p q k e)
