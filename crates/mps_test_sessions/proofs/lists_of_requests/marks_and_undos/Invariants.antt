-- In each turn of the loop of `marks_and_undos` each request so far is one of a role of the session.
use Rattle.std.proofs.Common.{◌<◌, length}
use Rattle.std.specs.List.{AllByRecursion}
use Rattle.mps_test_sessions.proofs.lists_of_requests.marks_and_undos.Given as goal

abbrev pub invariant-loop-turn : goal.invariant-loop-turn
invariant-loop-turn g l = AllByRecursion (λ request. request.0 < length l.session.types) l.all.items
