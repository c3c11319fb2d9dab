-- In each turn of the loop of `mark_from` as many steps are marked as were counted, and what is pending leads on to the others.
use Rattle.std.proofs.Common.{◌≡◌}
use Rattle.mps_links.specs.Private.Numbered.{keys_alone, HaveNumbers}
use Rattle.mps_links.proofs.Spreading.{IsSpread}
use Rattle.mps_links.proofs.marking.mark_from.Given as goal

abbrev pub invariant-loop-count : goal.invariant-loop-count
invariant-loop-count l = record {
  spread : IsSpread l.fn.arena.keyed_steps l.arena.keyed_steps l.fn.id l.walk (keys_alone l.pending.firsts) l.count;
  numbers : HaveNumbers l.arena.keyed_steps l.pending.firsts;
  issued : l.arena.issued ≡ l.fn.arena.issued;
  space : l.arena.has_space ≡ l.fn.arena.has_space;
  key : l.arena.next_key ≡ l.fn.arena.next_key;
}
