-- The loop of `take_waiting` ends: at each turn fewer lines wait.
use Rattle.std.proofs.Common.{length}
use Rattle.mps_test_texts.proofs.lines.take_waiting.Given as goal

abbrev pub decreases-loop-line : goal.decreases-loop-line
decreases-loop-line g l = length l.lines.waiting
