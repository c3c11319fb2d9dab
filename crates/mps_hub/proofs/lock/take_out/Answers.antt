-- `take_out` may call `swap_new_seat`, by the lemmas of Locking.
use Rattle.std.proofs.Common.{arith}
use Rattle.mps_hub.proofs.Locking.{takes_out}
use Rattle.mps_hub.proofs.lock.take_out.Goals as goal

pub swap_new_seat-found-requires : goal.swap_new_seat-found-requires
swap_new_seat-found-requires g c = (omega arith, takes_out _ _)
