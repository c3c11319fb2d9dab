-- In each turn of the loop of `marks_at` no step is marked, in either loop.
use Rattle.std.proofs.Common.{◌≡◌, []}
use Rattle.mps_links.specs.Marks.{marked_keys}
use Rattle.mps_test_sessions.proofs.dependents.marks_at.Given as goal

abbrev pub invariant-loop : goal.invariant-loop
invariant-loop g l = marked_keys l.arena.keyed_steps ≡ []

abbrev pub invariant-loop-2 : goal.invariant-loop-2
invariant-loop-2 g l = marked_keys l.arena.keyed_steps ≡ []
