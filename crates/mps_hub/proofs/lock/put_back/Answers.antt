-- `put_back` may call `store`, by the lemmas of Locking.
use Rattle.std.proofs.Common.{arith}
use Rattle.mps_hub.proofs.Locking.{puts_back}
use Rattle.mps_hub.proofs.lock.put_back.Goals as goal

pub store-requires : goal.store-requires
store-requires g c = (c.requires.cell, omega arith, puts_back _ _ _ _ c.requires.out)
