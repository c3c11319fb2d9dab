-- In each turn of the loop of `play` no step is marked.
use Rattle.std.proofs.Common.{◌≡◌, []}
use Rattle.mps_links.specs.Marks.{marked_keys}
use Rattle.mps_test_sessions.proofs.dependents.play.Given as goal

abbrev pub invariant-loop-deed : goal.invariant-loop-deed
invariant-loop-deed g l = marked_keys l.arena.keyed_steps ≡ []
