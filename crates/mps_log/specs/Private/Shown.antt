-- Where a walk over the steps stands.
use Rattle.std.specs.Prelude.{◌≡◌, ◌==◌, ◌++◌, ℕ, if◌then◌else◌, List, [], ◌∷◌, Option, Some, None}
use Rattle.mps_arena.specs.Keys.{first_key}
use Rattle.mps_arena.specs.KeyedSteps.{KeyedStep, keys_of, any_step, AreSound}
use Rattle.mps_log.specs.declared.moves.Moves.TheInside.{Inside}
use Rattle.mps_log.specs.Shown.{Moved, shown}

-- the keyed steps from that key on
abbrev pub from_key : Option ℕ → List KeyedStep → List KeyedStep
from_key None es = []
from_key (Some k) [] = []
from_key (Some k) (e ∷ es) = if e.key == k then e ∷ es else from_key (Some k) es

-- what is left to show
abbrev pub left_of : Inside → List Moved
left_of m = shown m.arena.now.keyed_steps (from_key m.at m.arena.now.keyed_steps)

-- the key is that of the first keyed step that is left
pub record IsWalk (m : Inside) : Type 0 where
  pub sound : AreSound m.arena.now.keyed_steps
  pub before : List KeyedStep
  pub left : List KeyedStep
  pub parts : m.arena.now.keyed_steps ≡ before ++ left
  pub at : m.at ≡ first_key (keys_of any_step left)
