-- What was told, and what comes of the listed entries that are left, is all.
use Rattle.std.proofs.Common.{◌≡◌, ◌++◌, drop}
use Rattle.std.specs.List.{filter, flat_map}
use Rattle.mps_room.specs.Private.Heard.{undone_at}
use Rattle.mps_room.specs.Private.Owners.{owns}
use Rattle.mps_room.specs.Private.Narrow.{journal_of}
use Rattle.mps_room.proofs.news.news.Given as goal

abbrev pub invariant-loop-place : goal.invariant-loop-place
invariant-loop-place l =
    l.ids.items ++ flat_map (λ k. filter (owns l.steps.owners.items l.role) (undone_at (journal_of l.journal.entries) k)) (drop l.place-index l.told) ≡ flat_map (λ k. filter (owns l.steps.owners.items l.role) (undone_at (journal_of l.journal.entries) k)) l.told
