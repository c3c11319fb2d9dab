-- In each turn of the loop of `take_all` the session has the same types.
use Rattle.std.proofs.Common.{◌≡◌}
use Rattle.mps_test_sessions.proofs.comparisons.take_all.Given as goal

abbrev pub invariant-loop-turn : goal.invariant-loop-turn
invariant-loop-turn g l = l.session.types ≡ l.fn.session.types
