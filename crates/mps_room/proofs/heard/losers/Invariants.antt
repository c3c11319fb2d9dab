-- Who lost one of the steps so far, and who loses one of those that are left, is all who lose one.
use Rattle.std.proofs.Common.{◌≡◌, ℕ, ◌<◌, false, drop, length, slice_index_or}
use Rattle.std.specs.Prelude.{◌||◌}
use Rattle.std.specs.List.{list_any}
use Rattle.mps_room.specs.Private.Owners.{owns}
use Rattle.mps_room.proofs.heard.losers.Given as goal

abbrev pub invariant-loop-id : goal.invariant-loop-id
invariant-loop-id l =
    record {
      each : length l.lost ≡ 8;
      all : (p : ℕ) → p < 8 → (slice_index_or l.lost p false || list_any (owns l.steps.owners.items p) (drop l.id-index l.ids)) ≡ list_any (owns l.steps.owners.items p) l.ids;
    }
