-- The reading of a tree and of branches ends: at each call fewer nodes may still come.
use Rattle.std.proofs.Common.{◌+◌, ◌*◌}
use Rattle.mps_text.proofs.reading.+reading.Given as goal

abbrev pub decreases-global_at : goal.decreases-global_at
decreases-global_at l = l.cursor.now.nodes * 2

abbrev pub decreases-branches_at : goal.decreases-branches_at
decreases-branches_at l = l.cursor.now.nodes * 2 + 1
