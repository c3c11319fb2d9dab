-- What a desk has, and where.
use Rattle.std.specs.Prelude.{◌≡◌, ℕ, ◌+◌, ◌-◌, ◌<◌, ◌≤◌, Bool, List, Option, Some, None, slice_get, get_or, length}
use Rattle.mps_cell.specs.Calls.{Known}
use Rattle.mps_cell.specs.Cells.{Opened}

-- what a desk offers: the names of the roles, the number of the first session, a cell for each session, how many entries
-- of its session each role may make, if that is limited, and whether answers may wait
pub record Offer : Type 0 where
  pub names : List (List ℕ)
  pub first : ℕ
  pub cells : List Opened
  pub share : Option ℕ
  pub waits : Bool

-- so many sessions are numbered from the first on
abbrev pub IsSession : (first sessions session : ℕ) → Type 0
IsSession first sessions session = (first ≤ session) × (session < first + sessions)

-- the pass is of this cell, and so of its names, its types and its session
pub record IsOfCell (cell : Opened) (pass : Known) : Type 0 where
  pub same_cell : pass.cell ≡ cell.cell
  pub same_opening : pass.opening ≡ cell.opening

-- the pass is of the cell at this place
pub record IsAtPlace (cells : List Opened) (place : ℕ) (pass : Known) : Type 0 where
  pub cell : Opened
  pub there : slice_get cells place ≡ Some cell
  pub of_cell : IsOfCell cell pass

-- the pass is of the cell of this session, which is as many places behind the first as its number is above that of the
-- first
abbrev pub IsOfSession : Offer → ℕ → Known → Type 0
IsOfSession offer session pass = IsAtPlace offer.cells (session - offer.first) pass

-- what records the session at this place, if something does
abbrev pub keeper_at : {K : Type 0} → List (Option K) → ℕ → Option K
keeper_at keepers place = get_or keepers place None

-- nothing is recorded at all, or this, which is something, records the session at this place
abbrev pub IsKeptBy : {K : Type 0} → List (Option K) → ℕ → Option K → Type 0
IsKeptBy keepers place keeper = (keeper ≡ keeper_at keepers place) × (keeper ≡ None → length keepers ≡ 0)

-- there is such a session, and something records it, unless nothing is recorded at all
abbrev pub IsOpen : {K : Type 0} → Offer → List (Option K) → ℕ → Type 0
IsOpen {K} offer keepers session = IsSession offer.first (length offer.cells) session
    × ((keeper : Option K) × IsKeptBy keepers (session - offer.first) keeper)

-- there is such a session, with a role of that name
pub record HasSuchRole (offer : Offer) (session : ℕ) (name : List ℕ) : Type 0 where
  pub is_session : IsSession offer.first (length offer.cells) session
  pub role : ℕ
  pub named : slice_get offer.names role ≡ Some name

-- there is such a session, and it is the pass of its cell and of the role of that name
pub record IsPassOf (offer : Offer) (session : ℕ) (name : List ℕ) (pass : Known) : Type 0 where
  pub is_session : IsSession offer.first (length offer.cells) session
  pub of_session : IsOfSession offer session pass
  pub number_is : pass.opening.session ≡ session
  pub names_are : pass.opening.names ≡ offer.names
  pub of_role : slice_get offer.names pass.role ≡ Some name
