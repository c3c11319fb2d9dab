-- In each turn of the loop of `same_past` the role did the same in both sessions after the two steps where the walks stand.
use Rattle.mps_session.proofs.SamePast.{AreAlike}
use Rattle.mps_session.proofs.alike.same_past.Given as goal

abbrev pub invariant-loop : goal.invariant-loop
invariant-loop l = AreAlike l.fn.role l.a.keyed_steps l.b.keyed_steps l.last l.other l.counter
