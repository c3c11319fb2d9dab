-- `take_in_time` keeps what holds in each turn of its loop.
use Rattle.std.proofs.Common.{suc, ◌∙◌}
use Rattle.mps_wire.specs.Conversations.{IsNothingYet, reply_of}
use Rattle.mps_wire.proofs.waiting.take_in_time.Goals as goal
use Rattle.mps_wire.proofs.waiting.take_in_time.Goals.{in-Some, in-None}

pub loop-preserved : goal.loop-preserved
loop-preserved g c =
    let before = c.loop.invariant.looks in
    let reply = reply_of c.take_line-outcome.result (g.C.Caller.kept c.take_line-outcome.new.caller) in
    let nothing : IsNothingYet reply = elim c.match-still_awaited.branch [
      | in-Some w ↦ w.in-Some.ensures.some _
      | in-None w ↦ absurd cc
    ] in
    record {
      waits = elim c.match-still_awaited.branch [
        | in-Some w ↦ rw w.vigil-is (w.rest-goes_on.ensures ∙ c.loop.invariant.waits)
        | in-None w ↦ rw w.vigil-is c.loop.invariant.waits
      ];
      looks = (suc before.0, (c.loop.caller, reply, before.1, c.take_line-outcome.ensures, nothing));
    }
