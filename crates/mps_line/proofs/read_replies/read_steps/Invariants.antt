-- The steps so far stand in front of those that the rest spells.
use Rattle.std.proofs.Common.{length}
use Rattle.mps_line.proofs.ReplyLines.{Reads}
use Rattle.mps_line.proofs.read_replies.read_steps.Given as goal

abbrev pub invariant-loop-parts : goal.invariant-loop-parts
invariant-loop-parts l = Reads l.bytes l.ids.items l.rest

abbrev pub decreases-loop-parts : goal.decreases-loop-parts
decreases-loop-parts l = length l.rest
