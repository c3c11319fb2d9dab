-- In each turn of the loop of `Past::of_roles` there is an empty past for each role so far.
use Rattle.std.proofs.Common.{◌≡◌, [], replicate}
use Rattle.mps_show.proofs.past.Past.of_roles.Given as goal

abbrev pub invariant-loop : goal.invariant-loop
invariant-loop l = l.pasts.items ≡ replicate l.counter []
