-- Keyed steps by their mark, the flag that chooses them. The marks that roles leave are acts.
use Rattle.std.specs.Prelude.{◌==◌, ◌&&◌, ℕ, Bool, false, List, map, not}
use Rattle.std.specs.List.{filter, list_any}
use Rattle.mps_base.specs.declared.action.Step.{Step}
use Rattle.mps_history.specs.Steps.{numbers}
use Rattle.mps_history.specs.Dependence.{IsClosed}
use Rattle.mps_history.specs.Commits.{is_commit}
use Rattle.mps_arena.specs.KeyedSteps.{KeyedStep, steps}

-- the keys of the marked steps, in order
abbrev pub marked_keys : List KeyedStep → List ℕ
marked_keys es = map (λ e. e.key) (filter (λ e. e.marked) es)

-- a step of that number is marked
abbrev pub is_marked : List KeyedStep → ℕ → Bool
is_marked es n = list_any (λ e. e.marked && e.step.id == n) es

-- where a step is marked, each that depends directly on it is marked
abbrev pub AreMarksClosed : List KeyedStep → Type 0
AreMarksClosed es = IsClosed (steps es) (is_marked es)

-- the keyed step, marked exactly where its number is in the set
abbrev pub marked_by : (ℕ → Bool) → KeyedStep → KeyedStep
marked_by set e = record e { marked = set e.step.id }

-- the keyed step without a mark
abbrev pub unmarked : KeyedStep → KeyedStep
unmarked e = record e { marked = false }

-- the steps that aren't marked, in order
abbrev pub unmarked_steps : List KeyedStep → List Step
unmarked_steps es = steps (filter (λ e. not e.marked) es)

-- the steps that are marked, in order
abbrev pub marked_steps : List KeyedStep → List Step
marked_steps es = steps (filter (λ e. e.marked) es)

-- the numbers of the marked commits, in order
abbrev pub marked_commits : List KeyedStep → List ℕ
marked_commits es = numbers (filter (λ s. is_commit s.act) (marked_steps es))
