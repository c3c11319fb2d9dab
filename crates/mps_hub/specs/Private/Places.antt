-- How a desk is laid out.
use Rattle.std.specs.Prelude.{◌≡◌, ℕ, ◌+◌, ◌<◌, ◌^◌, List, Option, Some, slice_get, length}
use Rattle.atomic_table.specs.Seated.{TableId}
use Rattle.mps_cell.specs.Calls.{Known}
use Rattle.mps_cell.specs.Cells.{Opened}
use Rattle.mps_hub.specs.Places.{IsOfCell}

-- the pass at place i is of this cell, and of the role i
abbrev pub AtHome : Opened → List (Option Known) → Type 0
AtHome cell passes = (i : ℕ) (k : Known) → slice_get passes i ≡ Some (Some k)
    → IsOfCell cell k × (k.role ≡ i)

-- the cell at each place is of these names, and of the session with the next number, which is this one for the first
abbrev pub AreNumbered : List (List ℕ) → (first : ℕ) → List Opened → Type 0
AreNumbered names first cells =
    (i : ℕ) (o : Opened) → slice_get cells i ≡ Some o → (o.opening.names ≡ names) × (o.opening.session ≡ first + i)

-- how the parts of a desk fit: its table has one word and one slot, and there are so many cells, numbered from this
-- number on, with these names, and each number is one of 64 bits
pub record IsDesk (table : TableId) (names : List (List ℕ)) (first sessions : ℕ) (cells : List Opened) : Type 0 where
  pub word : table.words ≡ 1
  pub slot : table.slots ≡ 1
  pub count : sessions ≡ length cells
  pub numbered : AreNumbered names first cells
  pub fits : first + length cells < 2 ^ 64
