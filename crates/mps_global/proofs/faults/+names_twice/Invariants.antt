-- `names_twice` ends: at each call it has fewer names.
use Rattle.std.proofs.Common.{length}
use Rattle.mps_global.proofs.faults.+names_twice.Given as goal

abbrev pub decreases-names_twice : goal.decreases-names_twice
decreases-names_twice l = length l.names.now
