-- A cell, as contracts see it, and the passes that it deals.
use Rattle.std.specs.Prelude.{◌≡◌, ℕ, zero, suc, Bool, false, List, [], ◌∷◌, ◌++◌, Option, None, IfSome}
use Rattle.std.specs.Prelude.{get_or, length, map}
use Rattle.atomic_table.specs.Seated.{TableId}
use Rattle.mps_local.specs.Local.{LocalType}
use Rattle.mps_room.specs.RoomState.{RoomState}
use Rattle.mps_room.specs.declared.numbers.Numbered.{Numbered}
use Rattle.mps_cell.specs.Openings.{Opening, IsLegalIn}
use Rattle.mps_cell.specs.Views.{SeatView, first_view, fresh_part}
use Rattle.mps_cell.specs.Rule.{StartsWith, resting}
use Rattle.mps_cell.specs.Calls.{Known, known, carried}

-- its table, how it was opened, and whether its passes were asked for
pub record Opened : Type 0 where
  pub cell : TableId
  pub opening : Opening
  pub given : Bool

-- the right to the passes of a cell: the cell, what its first seat knows, and each role's newest numbered command
pub record Dealt : Type 0 where
  pub cell : TableId
  pub view : SeatView
  pub newest : List (Option Numbered)

-- it is that of this cell, with all its roles
pub record IsDealOf (cell : TableId) (o : Opening) (deal : Dealt) : Type 0 where
  pub of_cell : deal.cell ≡ cell
  pub whole : deal.view ≡ first_view o
  pub newest_is : deal.newest ≡ o.newest

-- how the parts of a cell fit: its table has one word and one slot; the names are those of the opening, one for each
-- type, as there is a newest numbered command, or none, for each; so many entries had the journal; and the right to the
-- passes, where it is there, is the cell's
pub record IsOpened (table : TableId) (o : Opening) (names : List (List ℕ)) (begun : ℕ) (deal : Option Dealt)
    : Type 0 where
  pub word : table.words ≡ 1
  pub slot : table.slots ≡ 1
  pub count : length names ≡ length o.types
  pub names_are : names ≡ o.names
  pub numbered : length o.newest ≡ length o.types
  pub begun_is : begun ≡ length o.begun
  pub deal_is : IfSome deal (IsDealOf table o)

-- the opening of a cell with these names, types and number, in which nothing was done yet
abbrev pub opened_with : List (List ℕ) → List LocalType → ℕ → Opening
opened_with names types n =
    record { names = names; types = types; session = n; begun = []; newest = map (λ (_ : LocalType). None) types }

-- a pass that has seen and made what the journal had as the cell was opened
abbrev pub fresh : TableId → Opening → ℕ → Known
fresh id o role = carried (known id (resting (fresh_part o role) false).0) (get_or o.newest role None)

-- the fresh passes of the first n roles, in order
abbrev pub fresh_below : TableId → Opening → ℕ → List Known
fresh_below id o zero = []
fresh_below id o (suc n) = fresh_below id o n ++ fresh id o n ∷ []

-- a room of this opening, with a legal journal that begins with that of the opening
pub record Closes (o : Opening) (m : RoomState) : Type 0 where
  pub names : m.names ≡ o.names
  pub types : m.types ≡ o.types
  pub legal : IsLegalIn o m.journal
  pub begins : StartsWith m.journal o.begun
