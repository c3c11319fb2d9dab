-- The first send of each pair that isn't received: that from p to q at p * 8 + q.
use Rattle.std.specs.Prelude.{◌≡◌, ℕ, ◌+◌, ◌*◌, ◌<◌, List, length, drop, Option, None, slice_index_or}
use Rattle.mps_history.specs.Steps.{sends, receives}
use Rattle.mps_arena.specs.KeyedSteps.{KeyedStep, keys_of}
use Rattle.mps_arena.specs.Neighbours.{first_waiting}

-- the sends of the pair that aren't received, in order: a stretch at the end of the chain of its sends
abbrev pub waiting_keys : List KeyedStep → ℕ → ℕ → List ℕ
waiting_keys es p q = drop (length (keys_of (receives p q) es)) (keys_of (sends p q) es)

abbrev pub front_at : List (Option ℕ) → ℕ → ℕ → Option ℕ
front_at fronts p q = slice_index_or fronts (p * 8 + q) None

-- the fronts are those of these keyed steps
pub record AreFronts (es : List KeyedStep) (fronts : List (Option ℕ)) : Type 0 where
  pub each : (p q : ℕ) → p < 8 → q < 8 → front_at fronts p q ≡ first_waiting es p q
