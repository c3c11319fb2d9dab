-- In each turn of the loop of `Conversation::feed` the lines before the rest were answered, and of the line that has begun a front of bounded length is kept.
use Rattle.std.proofs.Common.{◌≡◌, ◌≤◌, length}
use Rattle.mps_lines.specs.Lines.{most_kept}
use Rattle.mps_wire.specs.Conversations.{ConversesLine}
use Rattle.mps_wire.proofs.Taking.{Taking}
use Rattle.mps_wire.proofs.conversation.Conversation.feed.Given as goal

abbrev pub invariant-loop-k : goal.invariant-loop-k
invariant-loop-k g l = record {
  writes : g.W.Sink.failed_calls l.writer ≡ g.W.Sink.failed_calls l.fn.writer;
  short : length l.self.line.items ≤ most_kept;
  waits : g.V.Vigil.waits l.vigil ≡ g.V.Vigil.waits l.fn.vigil;
  taking : Taking (ConversesLine g.C.Caller (g.V.Vigil.waits l.fn.vigil)) l.fn.self.line.items l.fn.caller (g.W.Sink.taken l.fn.writer) l.bytes l.rest l.self.line.items l.caller (g.W.Sink.taken l.writer);
}

abbrev pub decreases-loop-k : goal.decreases-loop-k
decreases-loop-k g l = length l.rest
