-- `Folder::keep_all` meets its clause `refused` where it fails, and keeps what holds in each turn of its loop, by the lemmas of Causes.
use Rattle.std.proofs.Common.{◌≡◌, ◌+◌, length, ap, ◌∙◌, arith}
use Rattle.std.specs.Vec.Iter.{into_iter_items}
use Rattle.mps_program.proofs.Causes.{refused_on}
use Rattle.mps_program.proofs.journals.Folder.keep_all.Goals as goal

pub loop-one-preserved : goal.loop-one-preserved
loop-one-preserved g c =
    let h = c.loop-one.invariant in
    let p = c.push_reserved.ensures in
    let more : length (into_iter_items c.loop-one.one-iterator) ≡ length (into_iter_items c.next.new.self) + 1 = omega (arith, ap (λ l. length l) c.in-Some.ensures.steps.0) in
    record {
      count = omega (arith, p.len, h.count, more);
      space = omega (arith, p.capacity, h.space);
      first = c.keep_one.ensures.first ∙ h.first;
      sessions = c.keep_one.ensures.sessions ∙ h.sessions;
      refused = refused_on _ _ _ _ _ _ _ h.first h.sessions h.refused c.keep_one.ensures.refused;
    }
