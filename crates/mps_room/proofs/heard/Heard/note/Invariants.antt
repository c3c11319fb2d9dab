-- The lists that were seen have the place if their roles hear of it, and the others are as they were.
use Rattle.std.proofs.Common.{◌≡◌, ℕ, ◌<◌, ◌≤◌, length, slice_index_or}
use Rattle.mps_room.specs.Private.Heard.{hears, with_place}
use Rattle.mps_room.specs.Private.Owners.{owns}
use Rattle.mps_room.proofs.heard.Heard.note.Given as goal

abbrev pub invariant-loop-k : goal.invariant-loop-k
invariant-loop-k l =
    record {
      count : l.self.count ≡ l.fn.self.count;
      each : length l.self.lists ≡ 8;
      done : (p : ℕ) (d : _) → p < l.k → (slice_index_or l.self.lists p d).items ≡ with_place (hears (owns l.steps.owners.items p) p l.asker l.ids) l.place (slice_index_or l.fn.self.lists p d).items;
      left : (p : ℕ) (d : _) → l.k ≤ p → slice_index_or l.self.lists p d ≡ slice_index_or l.fn.self.lists p d;
    }
