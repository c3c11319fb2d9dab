-- What was added, and what comes of the numbers that are left, is all.
use Rattle.std.proofs.Common.{◌≡◌, ◌++◌, drop}
use Rattle.std.specs.List.{filter}
use Rattle.mps_room.specs.Private.Owners.{owns}
use Rattle.mps_room.proofs.news.push_own.Given as goal

abbrev pub invariant-loop-id : goal.invariant-loop-id
invariant-loop-id l =
    l.out.items ++ filter (owns l.steps.owners.items l.role) (drop l.id-index l.ids) ≡ l.fn.out.items ++ filter (owns l.steps.owners.items l.role) l.ids
