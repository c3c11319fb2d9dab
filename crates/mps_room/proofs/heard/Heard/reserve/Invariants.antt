-- No list changes, and those that were seen have room.
use Rattle.std.proofs.Common.{◌≡◌, ◌≢◌, ℕ, ◌<◌, length, vec_len, vec_capacity, slice_index_or}
use Rattle.mps_room.proofs.heard.Heard.reserve.Given as goal

abbrev pub invariant-loop-k : goal.invariant-loop-k
invariant-loop-k l =
    record {
      count : l.self.count ≡ l.fn.self.count;
      each : length l.self.lists ≡ 8;
      same : (i : ℕ) (d : _) → (slice_index_or l.self.lists i d).items ≡ (slice_index_or l.fn.self.lists i d).items;
      room : (i : ℕ) (d : _) → i < l.k → i ≢ l.asker → vec_len (slice_index_or l.self.lists i d) < vec_capacity (slice_index_or l.self.lists i d);
    }
