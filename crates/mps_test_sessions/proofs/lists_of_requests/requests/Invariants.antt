-- In each turn of the loop of `requests` each request so far is one of a role of the session.
use Rattle.std.proofs.Common.{◌<◌, length}
use Rattle.std.specs.List.{AllByRecursion}
use Rattle.mps_test_sessions.proofs.lists_of_requests.requests.Given as goal

abbrev pub invariant-loop-place : goal.invariant-loop-place
invariant-loop-place g l = AllByRecursion (λ request. request.0 < length l.session.types) l.all.items
