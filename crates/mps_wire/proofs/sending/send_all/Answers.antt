-- `send_all` keeps what holds in each turn of its loop, by the lemmas of Bytes.
use Rattle.std.proofs.Common.{◌∙◌}
use Rattle.mps_wire.proofs.Bytes.{sends_on}
use Rattle.mps_wire.proofs.sending.send_all.Goals as goal

pub loop-rest-preserved : goal.loop-rest-preserved
loop-rest-preserved g c = record {
  sending = sends_on _ _ _ _ _ c.in_ok-count.count c.loop-rest.invariant.sending c.in_ok-count.ensures.within c.in_ok-count.ensures.bytes;
  none_failed = c.in_ok-count.ensures.failures ∙ c.loop-rest.invariant.none_failed;
}
