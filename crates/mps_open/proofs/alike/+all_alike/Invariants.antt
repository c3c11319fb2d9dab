-- `all_alike` ends, since the types get fewer.
use Rattle.std.proofs.Common.{length}
use Rattle.mps_open.proofs.alike.+all_alike.Given as goal

abbrev pub decreases-all_alike : goal.decreases-all_alike
decreases-all_alike l = length l.types.now
