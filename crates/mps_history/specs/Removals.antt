-- What is left once a step goes with all that depends on it, and once two do.
use Rattle.std.specs.Prelude.{ℕ, Bool, ◌||◌, List}
use Rattle.mps_base.specs.declared.action.Step.{Step}
use Rattle.mps_history.specs.Steps.{without}
use Rattle.mps_history.specs.Dependence.{consequences}

-- the history without step n and all that depend on it
abbrev pub without_future : List Step → ℕ → List Step
without_future h n = without h (consequences h n)

-- the numbers of step m, of step n, and of all that depend on one of them or both
abbrev pub both_futures : List Step → ℕ → ℕ → (ℕ → Bool)
both_futures h m n = λ k. consequences h m k || consequences h n k
