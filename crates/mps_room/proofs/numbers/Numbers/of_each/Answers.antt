-- `Numbers::of_each` keeps what holds in each turn of its loop.
use Rattle.std.proofs.Common.{◌≡◌, List, None, sym, subst, arith}
use Rattle.std.specs.Prelude.{All}
use Rattle.std.proofs.lemmas.List.Elements.{All-push}
use Rattle.mps_room.specs.declared.numbers.Numbers.{Numbers}
use Rattle.mps_room.proofs.numbers.Numbers.of_each.Goals as goal

pub loop-preserved : goal.loop-preserved
loop-preserved c =
    let h = c.loop.invariant in
    let p = c.push_reserved.ensures in
    let P : Numbers → Type 0 = λ n. n.newest ≡ None in
    record {
      count = omega (arith, p.len, h.count);
      space = omega (arith, p.capacity, h.space);
      none = subst (All P) (sym {A = List Numbers} p.items) (All-push P c.loop.each.items _ h.none c.new.ensures);
    }
