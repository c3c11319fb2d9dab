-- What two passes of one cell learn of each other, and what a room has of a pass.
use Rattle.std.specs.Prelude.{◌≡◌, ℕ, ◌≤◌, List, length}
use Rattle.mps_room.specs.Callers.{entries_of}
use Rattle.mps_room.specs.declared.entry.Entry.{Entry}
use Rattle.mps_cell.specs.Rule.{StartsWith}
use Rattle.mps_cell.specs.Calls.{Known}

-- the second has seen no less: its journal begins with the first's, and has of both roles just what their passes made
pub record HasSeen (k l : Known) : Type 0 where
  pub begins : StartsWith l.seen k.seen
  pub first_made : entries_of k.role l.seen ≡ k.made
  pub second_made : entries_of l.role l.seen ≡ l.made

-- no less than either pass was told of or has seen
pub record ReachesBoth (k l : Known) (n : ℕ) : Type 0 where
  pub first_reported : k.reported ≤ n
  pub first_seen : length k.seen ≤ n
  pub second_reported : l.reported ≤ n
  pub second_seen : length l.seen ≤ n

-- the journal begins with what the pass saw, is no shorter than it was told, and has of its role just what it made
pub record HasAllOf (k : Known) (j : List Entry) : Type 0 where
  pub begins : StartsWith j k.seen
  pub reached : k.reported ≤ length j
  pub own : entries_of k.role j ≡ k.made
