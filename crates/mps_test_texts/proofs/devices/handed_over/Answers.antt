-- `handed_over` keeps what holds in each turn of its loop.
use Rattle.std.proofs.Common.{arith, take, drop}
use Rattle.std.proofs.Math.Seq.{take-add}
use Rattle.std.proofs.lemmas.List.{take_rest}
use Rattle.std.proofs.lemmas.Grind.{common_steps}
use Rattle.std.proofs.KnownBytes.{Appends-trans}
use Rattle.mps_test_texts.proofs.devices.handed_over.Goals as goal

pub loop-turn-preserved : goal.loop-turn-preserved
loop-turn-preserved g c =
    let k = g.K.Sink in
    let at = c.loop-turn.at in
    let bytes = c.args.bytes.now in record {
      failures = grind (arith, common_steps, c.in-Ok.ensures);
      within = grind (arith, common_steps, c.in-Ok.ensures);
      bytes = rw (take-add at c.in-Ok.n bytes) (Appends-trans (k.taken c.args.sink.now) (k.taken c.loop-turn.sink) (k.taken c.write.new.self)
          (take at bytes) (take c.in-Ok.n (drop at bytes)) c.loop-turn.invariant.bytes (rw (take_rest bytes at) at c.in-Ok.ensures.bytes));
    }
