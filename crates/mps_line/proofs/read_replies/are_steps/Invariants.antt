-- Some steps stand in front of those that the rest spells.
use Rattle.std.proofs.Common.{ℕ, List, length}
use Rattle.mps_line.proofs.ReplyLines.{Reads}
use Rattle.mps_line.proofs.read_replies.are_steps.Given as goal

abbrev pub invariant-loop-parts : goal.invariant-loop-parts
invariant-loop-parts l = (ids : List ℕ) × Reads l.bytes ids l.rest

abbrev pub decreases-loop-parts : goal.decreases-loop-parts
decreases-loop-parts l = length l.rest
