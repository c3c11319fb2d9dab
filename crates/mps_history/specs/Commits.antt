-- Commits: steps that nothing undoes.
use Rattle.std.specs.Prelude.{ℕ, Bool, true, false, List}
use Rattle.std.specs.List.{filter}
use Rattle.mps_base.specs.declared.action.Act.{Act}
use Rattle.mps_base.specs.declared.action.Act.TheVariants.{Commit}
use Rattle.mps_base.specs.declared.action.Step.{Step}
use Rattle.mps_history.specs.Steps.{numbers, within}
use Rattle.mps_history.specs.Dependence.{consequences}

-- whether the act is a commit
abbrev pub is_commit : Act → Bool
is_commit Commit = true
is_commit act = false

-- the numbers of the commits among the steps, in order
abbrev pub commits_of : List Step → List ℕ
commits_of h = numbers (filter (λ s. is_commit s.act) h)

-- the numbers of the commits among step n and all that depend on it, in order
abbrev pub commits_from : List Step → ℕ → List ℕ
commits_from h n = commits_of (within h (consequences h n))
