-- In each turn of the loop of `first_waiting` the send that was found is the first of those so far, from the last back, that isn't received.
use Rattle.std.proofs.Common.{◌≡◌, length}
use Rattle.mps_arena.specs.KeyedSteps.{AreSound}
use Rattle.mps_links.proofs.Waiting.{IsSought}
use Rattle.mps_test_sessions.proofs.dependents.first_waiting.Given as goal

abbrev pub invariant-loop : goal.invariant-loop
invariant-loop l = record {
  sound : AreSound l.arena.keyed_steps;
  sought : IsSought l.arena.keyed_steps sound l.fn.from l.fn.to l.at l.first l.counter;
  end : l.end ≡ length l.arena.keyed_steps;
}
