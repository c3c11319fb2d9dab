-- `first_left` keeps what holds in each turn of its loop, by the lemmas of PiecesLeft.
use Rattle.std.proofs.Common.{arith}
use Rattle.std.proofs.lemmas.Grind.{common_steps}
use Rattle.mps_dev.proofs.PiecesLeft.{left_from-passed}
use Rattle.mps_dev.proofs.memory.first_left.Goals as goal

pub loop-next-preserved : goal.loop-next-preserved
loop-next-preserved c = grind (arith, common_steps, left_from-passed)
