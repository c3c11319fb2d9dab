-- `Queues::push` meets its contract, by the lemmas of Moves.
use Rattle.std.proofs.Common.{arith, ◌∷◌, [], ◌++◌}
use Rattle.mps_queues.proofs.Moves.{front_set, front_stays, front_read, waiting_push, others_push}
use Rattle.mps_queues.proofs.fronts.Queues.push.Goals as goal

pub returns-then-is_none : goal.returns-then-is_none
returns-then-is_none c es e f sound t key =
    let p = c.args.from in
    let q = c.args.to in
    let fronts = c.self.inside.fronts in
    grind (arith, front_read fronts es p q, waiting_push es sound p q e t, front_set fronts es (es ++ e ∷ []) p q, others_push es sound p q e t)

pub returns-else-is_none : goal.returns-else-is_none
returns-else-is_none c es e f sound t key =
    let p = c.args.from in
    let q = c.args.to in
    let fronts = c.self.inside.fronts in
    grind (arith, front_read fronts es p q, waiting_push es sound p q e t, front_stays fronts es (es ++ e ∷ []) p q, others_push es sound p q e t)
