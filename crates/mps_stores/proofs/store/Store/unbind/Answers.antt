-- `Store::unbind` meets its contract, by the lemmas of Maps.
use Rattle.std.proofs.Common.{arith}
use Rattle.mps_stores.proofs.Maps.{unbound_there}
use Rattle.mps_stores.proofs.store.Store.unbind.Goals as goal

pub returns-in-Some-place_among_few : goal.returns-in-Some-place_among_few
returns-in-Some-place_among_few c = grind (arith, unbound_there)
