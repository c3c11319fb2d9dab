-- How a session keeps the view that replaying its steps gives, of n roles.
use Rattle.std.specs.Prelude.{◌≡◌, ℕ, ◌<◌, ◌≤◌, List, [], ◌∷◌, ◌++◌, length, slice_index_or}
use Rattle.std.specs.List.{AllByRecursion}
use Rattle.mps_base.specs.RoleLists.{HasRoleCount}
use Rattle.mps_local.specs.Local.{LocalType}
use Rattle.mps_machine.specs.View.{View}
use Rattle.mps_machine.specs.Machine.{most_numbers, view_of, IsSound}
use Rattle.mps_arena.specs.KeyedSteps.{KeyedStep, steps, AreSound}
use Rattle.mps_links.specs.Marks.{marked_keys}
use Rattle.mps_table.specs.Standing.{StandsFor}
use Rattle.mps_session.specs.Private.Configurations.{Lists, cursor_of, state_of}
use Rattle.mps_session.specs.Private.Cursors.{IsFor, nowhere}
use Rattle.mps_session.specs.declared.cursor.Cursor.{Cursor}
use Rattle.mps_session.specs.Peers.{HasPeers, HavePeers}

-- a cursor for each role, for what it may still do; its peers are other roles
pub record AreCursors (n : ℕ) (cursors : List Cursor) (v : View) : Type 0 where
  pub long : length cursors ≡ n
  pub peers : (p : ℕ) → p < n → HasPeers n p (v.participant p).to_come
  pub each : (p : ℕ) → p < n → IsFor (slice_index_or cursors p nowhere) (v.participant p).to_come

-- each step keeps a node for what its role could still do right before it
abbrev pub ArePlaced : List LocalType → Lists → Type 0
ArePlaced types c =
    (a b : List KeyedStep) (e : KeyedStep) → c.keyed_steps ≡ a ++ e ∷ b → StandsFor
    (cursor_of c e.step.role).table e.before.at ((view_of types (steps a)).participant e.step.role).to_come

-- what the session keeps is the view of its steps, which its roles did, and numbers are still counted
pub record Holds (types : List LocalType) (c : Lists) : Type 0 where
  pub sound : IsSound types (state_of c)
  pub roles : HasRoleCount types
  pub peers : HavePeers types
  pub members : AllByRecursion (λ e. e.step.role < length types) c.keyed_steps
  pub kept : AreSound c.keyed_steps
  pub cursors : AreCursors (length types) c.cursors (view_of types (steps c.keyed_steps))
  pub placed : ArePlaced types c
  pub few : c.issued ≤ most_numbers

-- the same, and no step is marked: so it is between two commands
pub record IsAtRest (types : List LocalType) (c : Lists) : Type 0 where
  pub holds : Holds types c
  pub unmarked : marked_keys c.keyed_steps ≡ []
