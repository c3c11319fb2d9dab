-- What a caller sees of a log.
use Rattle.std.specs.Prelude.{ℕ, List}
use Rattle.mps_arena.specs.KeyedSteps.{KeyedStep}

-- the steps, the oldest first; how many numbers were given out
pub record Logged : Type 0 where
  pub keyed_steps : List KeyedStep
  pub issued : ℕ
