-- `Pass::front` may call `load`, by the lemmas of Keeping.
use Rattle.std.proofs.Common.{arith}
use Rattle.mps_cell.proofs.Keeping.{looks}
use Rattle.mps_cell.proofs.pass.Pass.front.Goals as goal

pub load-word-requires : goal.load-word-requires
load-word-requires c = (c.self.invariant.cell, omega arith, looks _ _ _ _)
