-- Each tree weighs something.
use Rattle.std.proofs.Common.{◌<◌, arith}
use Rattle.mps_global.specs.declared.Global.{Global, End}
use Rattle.mps_global.specs.Private.Weights.{weight}

-- each tree weighs something
pub some_weight : (tree : Global) → 0 < weight tree
some_weight End = omega arith
some_weight other = omega arith
