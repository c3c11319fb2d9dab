-- `Store::get` meets its contract, by the lemmas of Maps.
use Rattle.std.proofs.Common.{arith}
use Rattle.mps_stores.proofs.Maps.{lookup_is_value}
use Rattle.mps_stores.proofs.store.Store.get.Goals as goal

pub returns : goal.returns
returns c = grind (arith, lookup_is_value)
