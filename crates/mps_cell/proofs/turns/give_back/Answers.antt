-- `give_back` may call `store`, by the lemmas of Taking.
use Rattle.std.proofs.Common.{rules, arith, ap, ◌*◌}
use Rattle.mps_cell.proofs.Taking.{gives_answered}
use Rattle.mps_cell.proofs.turns.give_back.Goals as goal

pub store-requires : goal.store-requires
store-requires c = (search rules, omega arith, gives_answered _ _ _ _ _ c.requires.room (ap (λ n. 2 * n) c.requires.count))
