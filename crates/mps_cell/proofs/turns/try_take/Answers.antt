-- `try_take` may call `load` and `compare_exchange`, by the lemmas of Keeping and Taking.
use Rattle.std.proofs.Common.{rules, arith, refl}
use Rattle.mps_cell.proofs.Keeping.{looks, tries}
use Rattle.mps_cell.proofs.Taking.{looked_part}
use Rattle.mps_cell.proofs.turns.try_take.Goals as goal

pub load-found-requires : goal.load-found-requires
load-found-requires c = (c.requires.cell, omega arith, looks _ _ _ _)

pub compare_exchange-again-requires : goal.compare_exchange-again-requires
compare_exchange-again-requires c = (search rules, omega arith, tries _ _ _ _ _ _ _ _ (looked_part _ _ _ c.requires.free c.load-found.ensures.2) (omega arith) refl)
