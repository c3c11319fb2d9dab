-- In each turn of the loop of `Arena::nth` the key is that of the step at the counter.
use Rattle.std.proofs.Common.{◌≡◌, Some, slice_get}
use Rattle.mps_arena.specs.KeyedSteps.{keys_of, any_step}
use Rattle.mps_arena.proofs.arena.Arena.nth.Given as goal

abbrev pub invariant-loop : goal.invariant-loop
invariant-loop l = slice_get (keys_of any_step l.self.keyed_steps) l.counter ≡ Some l.at
