-- In each turn of the loop of `first_final_of` the commit that was found is the role's first marked one, of those from the last step back to here.
use Rattle.std.proofs.Common.{◌≡◌, length}
use Rattle.mps_links.proofs.Commits.{IsSearch}
use Rattle.mps_links.proofs.finals.first_final_of.Given as goal

abbrev pub invariant-loop : goal.invariant-loop
invariant-loop l = record {
  search : IsSearch l.arena.keyed_steps l.fn.role l.at l.first l.counter;
  end : l.end ≡ length l.arena.keyed_steps;
}
