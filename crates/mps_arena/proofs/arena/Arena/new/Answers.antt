-- `Arena::new` keeps the invariant of its type, by the lemmas of Matched.
use Rattle.std.proofs.Common.{arith}
use Rattle.mps_arena.proofs.Matched.{fed_nil}
use Rattle.mps_arena.proofs.arena.Arena.new.Goals as goal

pub invariant_of-result : goal.invariant_of-result
invariant_of-result c = grind (arith, fed_nil)
