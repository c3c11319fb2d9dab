-- `no_conversation_meets_a_mismatch` meets its clauses `whole` and `broken_off`, by the lemmas of Faithful.
use Rattle.std.proofs.Common.{[], sym, append-nil}
use Rattle.mps_wire.proofs.Faithful.{conversation_fits, conversation_broken_fits}
use Rattle.mps_wire.proofs.laws.no_conversation_meets_a_mismatch.Goals as goal

pub returns-clause-whole : goal.returns-clause-whole
returns-clause-whole g c types none waits asked before out after lines rest free a split =
    conversation_fits c.one_reply_line.ensures.reply g.C.Caller types none waits asked lines before after out out [] rest free a (sym (append-nil out)) split

pub returns-clause-broken_off : goal.returns-clause-broken_off
returns-clause-broken_off g c types none waits asked before out after lines rest free a split =
    conversation_broken_fits c.one_reply_line.ensures.reply g.C.Caller types none waits asked lines before after out rest free a split
