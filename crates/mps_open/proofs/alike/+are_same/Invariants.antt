-- `are_same` ends, since the names get fewer.
use Rattle.std.proofs.Common.{length}
use Rattle.mps_open.proofs.alike.+are_same.Given as goal

abbrev pub decreases-are_same : goal.decreases-are_same
decreases-are_same l = length l.names.now
