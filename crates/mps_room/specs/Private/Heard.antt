-- Which entries are news to a role.
use Rattle.std.specs.Prelude.{◌≡◌, ℕ, suc, ◌<◌, ◌≤◌, Bool, true, false, ◌==◌, ◌&&◌, not, if◌then◌else◌, List, [], ◌∷◌}
use Rattle.std.specs.Prelude.{◌++◌, length, slice_get, slice_index_or}
use Rattle.std.specs.List.{list_any}
use Rattle.std.specs.Option.{option_map_or}
use Rattle.mps_command.specs.declared.command.Command.{Command}
use Rattle.mps_command.specs.declared.command.Command.TheVariants.{Rollback, Back}
use Rattle.mps_room.specs.Journal.{undone_by, is_own}
use Rattle.mps_room.specs.declared.entry.Entry.{Entry}

-- whether the command may take back steps of other roles: an undo takes back the role's own step alone
abbrev pub takes_others : Command → Bool
takes_others (Rollback n) = true
takes_others (Back name) = true
takes_others command = false

-- whether role p hears of it that role q takes back these steps: it is another role's doing, and one of them is in p's
-- set
abbrev pub hears : (set : ℕ → Bool) → (p q : ℕ) → List ℕ → Bool
hears set p q ids = not (q == p) && list_any set ids

-- whether role p hears of the entry
abbrev pub hears_of : (set : ℕ → Bool) → ℕ → Entry → Bool
hears_of set p e = hears set p e.role (undone_by e.answer)

-- the places, counted from k, of the entries that role p hears of, in order
abbrev pub places_from : (set : ℕ → Bool) → (p k : ℕ) → List Entry → List ℕ
places_from set p k [] = []
places_from set p k (e ∷ j) = if hears_of set p e then k ∷ places_from set p (suc k) j else places_from set p (suc k) j

-- role p's list: the places of the entries in which another role took back at least one of its steps, in order
abbrev pub places : List Entry → ℕ → List ℕ
places j p = places_from (is_own j p) p 0 j

-- a list, with the place of one entry more if the role hears of it
abbrev pub with_place : Bool → ℕ → List ℕ → List ℕ
with_place heard place l = if heard then l ++ place ∷ [] else l

-- the numbers of the steps that the entry at a place took back
abbrev pub undone_at : List Entry → ℕ → List ℕ
undone_at j place = option_map_or (λ e. undone_by e.answer) (slice_get j place) []

-- there is a list for each of so many roles, at most 8: the places of the entries that it hears of
pub record AreHeard (count : ℕ) (lists : List (List ℕ)) (j : List Entry) : Type 0 where
  pub few : count ≤ 8
  pub each : length lists ≡ 8
  pub listed : (p : ℕ) → p < count → slice_index_or lists p [] ≡ places j p
