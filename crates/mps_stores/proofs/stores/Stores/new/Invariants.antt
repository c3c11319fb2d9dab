-- In each turn of the loop of `Stores::new` there is an empty store for each role so far.
use Rattle.std.proofs.Common.{◌≡◌, [], replicate}
use Rattle.mps_stores.proofs.stores.Stores.new.Given as goal

abbrev pub invariant-loop : goal.invariant-loop
invariant-loop l = l.stores.items ≡ replicate l.counter []
