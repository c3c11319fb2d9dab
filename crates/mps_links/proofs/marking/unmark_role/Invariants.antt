-- In each turn of the loop of `unmark_role` the role's steps behind the place of the walk have no mark, and nothing else has changed.
use Rattle.std.proofs.Common.{◌≡◌, length}
use Rattle.mps_links.proofs.Unmarking.{IsWalk}
use Rattle.mps_links.proofs.marking.unmark_role.Given as goal

abbrev pub invariant-loop : goal.invariant-loop
invariant-loop l = record {
  walk : IsWalk l.fn.role l.fn.arena.keyed_steps l.arena.keyed_steps l.at l.counter;
  end : l.end ≡ length l.fn.arena.keyed_steps;
  issued : l.arena.issued ≡ l.fn.arena.issued;
  space : l.arena.has_space ≡ l.fn.arena.has_space;
  key : l.arena.next_key ≡ l.fn.arena.next_key;
}
