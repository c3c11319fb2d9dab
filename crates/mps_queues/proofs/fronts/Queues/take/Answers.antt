-- `Queues::take` meets its clause `fronts`, by the lemmas of Moves.
use Rattle.std.proofs.Common.{arith, ◌+◌, ◌∷◌, [], ◌++◌}
use Rattle.mps_queues.proofs.Moves.{front_set, front_read, waiting_take, others_take}
use Rattle.mps_queues.proofs.fronts.Queues.take.Goals as goal

pub returns-clause-fronts : goal.returns-clause-fronts
returns-clause-fronts c e t =
    let p = c.args.from in
    let q = c.args.to in
    let es = c.args.arena.now.keyed_steps in
    let fronts = c.self.inside.fronts in
    grind (arith, front_read fronts es p q, waiting_take es c.steps_are_sound.ensures p q e t, front_set fronts es (es ++ e ∷ []) p q, others_take es c.steps_are_sound.ensures p q e t)
