-- In each turn of the loop of `Queues::nth` the key is that of the waiting send at the counter.
use Rattle.std.proofs.Common.{◌≡◌, Some, slice_get}
use Rattle.mps_queues.specs.Fronts.{waiting_keys}
use Rattle.mps_queues.proofs.fronts.Queues.nth.Given as goal

abbrev pub invariant-loop : goal.invariant-loop
invariant-loop l = slice_get (waiting_keys l.arena.keyed_steps l.fn.from l.fn.to) l.counter ≡ Some l.at
