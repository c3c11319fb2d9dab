-- In each turn of the loop of `unmark` no step of the roles so far has a mark, and nothing else has changed.
use Rattle.std.proofs.Common.{◌≡◌, map}
use Rattle.mps_links.proofs.Unmarking.{unmarked_below}
use Rattle.mps_links.proofs.marking.unmark.Given as goal

abbrev pub invariant-loop-role : goal.invariant-loop-role
invariant-loop-role l = record {
  keyed_steps : l.arena.keyed_steps ≡ map (unmarked_below l.role) l.fn.arena.keyed_steps;
  issued : l.arena.issued ≡ l.fn.arena.issued;
  space : l.arena.has_space ≡ l.fn.arena.has_space;
  key : l.arena.next_key ≡ l.fn.arena.next_key;
}
