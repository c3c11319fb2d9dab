-- In each turn of the loop of `send_all` the sink took the bytes before the rest, and no write failed.
use Rattle.std.proofs.Common.{◌≡◌, length}
use Rattle.mps_wire.proofs.Bytes.{Sending}
use Rattle.mps_wire.proofs.sending.send_all.Given as goal

abbrev pub invariant-loop-rest : goal.invariant-loop-rest
invariant-loop-rest g l = record {
  sending : Sending (g.W.Sink.taken l.fn.writer) (g.W.Sink.taken l.writer) l.bytes l.rest;
  none_failed : g.W.Sink.failed_calls l.writer ≡ g.W.Sink.failed_calls l.fn.writer;
}

abbrev pub decreases-loop-rest : goal.decreases-loop-rest
decreases-loop-rest g l = length l.rest
