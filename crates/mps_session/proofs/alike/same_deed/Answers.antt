-- `same_deed` meets its contract, by the lemmas of SamePast.
use Rattle.std.proofs.Common.{sym, ◌∙◌}
use Rattle.mps_session.proofs.SamePast.{deeds_from, same_taken}
use Rattle.mps_session.proofs.alike.same_deed.Goals as goal

pub returns-then-same_act : goal.returns-then-same_act
returns-then-same_act c =
    let a = c.args.a.now.keyed_steps in
    let b = c.args.b.now.keyed_steps in
    let s = c.get.result.now in
    let t = c.get-2.result.now in (
      (λ y. deeds_from a b c.args.x c.args.y s t c.get.ensures c.get-2.ensures (c.same_act.ensures.0 c.if-same_act.true) (sym c.taken.ensures ∙ c.same_taken.ensures.0 y ∙ c.taken-then-same_act.ensures)),
      (λ e. c.same_taken.ensures.1 (c.taken.ensures ∙ same_taken a b c.args.x c.args.y s t c.get.ensures c.get-2.ensures e ∙ sym c.taken-then-same_act.ensures)),
    )
