-- `tell_sessions` ends: at each call it has fewer rooms.
use Rattle.std.proofs.Common.{length}
use Rattle.mps_program.proofs.serving.+tell_sessions.Given as goal

abbrev pub decreases-tell_sessions : goal.decreases-tell_sessions
decreases-tell_sessions g l = length l.rooms.now
