-- Each tree weighs something.
use Rattle.std.proofs.Common.{◌<◌, arith}
use Rattle.mps_local.specs.declared.Local.{Local, End}
use Rattle.mps_local.specs.Private.Weights.{weight}

pub some_weight : (tree : Local) → 0 < weight tree
some_weight End = omega arith
some_weight other = omega arith
