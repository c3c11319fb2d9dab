-- `write_lines` ends: at each call it has fewer types.
use Rattle.std.proofs.Common.{length}
use Rattle.mps_program.proofs.check.+write_lines.Given as goal

abbrev pub decreases-write_lines : goal.decreases-write_lines
decreases-write_lines l = length l.types.now
