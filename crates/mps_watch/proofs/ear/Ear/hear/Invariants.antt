-- Each turn hears a line, and its end.
use Rattle.std.proofs.Common.{length}
use Rattle.mps_watch.proofs.ear.Ear.hear.Given as goal

abbrev pub decreases-loop-rest : goal.decreases-loop-rest
decreases-loop-rest g l = length l.rest
