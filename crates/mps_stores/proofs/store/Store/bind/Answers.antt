-- `Store::bind` meets its clauses `replaced`, `bound` and `absent`, by the lemmas of Maps.
use Rattle.std.proofs.Common.{arith}
use Rattle.mps_stores.proofs.Maps.{insert_is_bound, lookup_is_value, value_there, bound_there}
use Rattle.mps_stores.proofs.store.Store.bind.Goals as goal

pub returns-clause-replaced : goal.returns-clause-replaced
returns-clause-replaced c = grind (arith, lookup_is_value)

pub returns-clause-bound : goal.returns-clause-bound
returns-clause-bound c = grind (arith, insert_is_bound)

pub returns-in_err-insert-clause-absent : goal.returns-in_err-insert-clause-absent
returns-in_err-insert-clause-absent c = grind (arith, lookup_is_value)

pub returns-in-Some-clause-replaced : goal.returns-in-Some-clause-replaced
returns-in-Some-clause-replaced c = grind (arith, value_there)

pub returns-in-Some-clause-bound : goal.returns-in-Some-clause-bound
returns-in-Some-clause-bound c = grind (arith, bound_there)
