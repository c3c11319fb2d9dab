-- `are_distinct` ends: at each call it has fewer names.
use Rattle.std.proofs.Common.{length}
use Rattle.mps_base.proofs.roles.+are_distinct.Given as goal

abbrev pub decreases-are_distinct : goal.decreases-are_distinct
decreases-are_distinct l = length l.names.now
