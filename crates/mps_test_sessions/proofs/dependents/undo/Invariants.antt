-- In each turn of the loop of `undo` where a step is marked, so is each that depends on it.
use Rattle.mps_links.specs.Marks.{AreMarksClosed}
use Rattle.mps_test_sessions.proofs.dependents.undo.Given as goal

abbrev pub invariant-loop : goal.invariant-loop
invariant-loop g l = AreMarksClosed l.arena.keyed_steps
