-- The messages of a pair that are left to show.
use Rattle.std.specs.Prelude.{◌≡◌, ◌==◌, ℕ, suc, if◌then◌else◌, List, [], ◌∷◌, length, drop, Option, Some, None}
use Rattle.std.specs.Prelude.{slice_get}
use Rattle.mps_base.specs.declared.action.Message.{Message}
use Rattle.mps_history.specs.Steps.{unreceived}
use Rattle.mps_arena.specs.KeyedSteps.{steps, AreSound}
use Rattle.mps_queues.specs.Fronts.{waiting_keys}
use Rattle.mps_log.specs.declared.queue.Queue.TheInside.{Inside}

-- how many keys stand in front of that one: all where there is none
abbrev pub place_of_key : Option ℕ → List ℕ → ℕ
place_of_key None keys = length keys
place_of_key (Some k) [] = 0
place_of_key (Some k) (j ∷ keys) = if j == k then 0 else suc (place_of_key (Some k) keys)

-- what waits, from the message of that send on
abbrev pub left_of : Inside → List Message
left_of w =
    let es = w.arena.now.keyed_steps in
    drop (place_of_key w.at (waiting_keys es w.from w.to)) (unreceived w.from w.to (steps es))

-- the key is that of a send that waits, or there is none
pub record IsQueue (w : Inside) : Type 0 where
  pub sound : AreSound w.arena.now.keyed_steps
  pub passed : ℕ
  pub at : w.at ≡ slice_get (waiting_keys w.arena.now.keyed_steps w.from w.to) passed
