-- `take_line_waiting` meets its clause `replies`.
use Rattle.std.proofs.Common.{Bool, subst}
use Rattle.mps_wire.specs.Conversations.{AtOnce, RepliesTo, reply_of}
use Rattle.mps_wire.proofs.waiting.take_line_waiting.Goals as goal

pub returns-in-None-clause-replies : goal.returns-in-None-clause-replies
returns-in-None-clause-replies g c =
    AtOnce (λ limit rest waiting. c.in-None.ensures.none limit rest waiting.spelled)
    (subst (λ (waits : Bool). RepliesTo g.C.Caller waits c.args.line.now c.args.caller.now (reply_of c.take_line-in-None.result (g.C.Caller.kept c.take_line-in-None.new.caller)) c.take_line-in-None.new.caller) c.waits-waits.ensures c.take_line-in-None.ensures)
