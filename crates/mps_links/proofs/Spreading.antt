-- The walk by which a step and all that depends on it are marked: from a role's step to its next one, and then from the first receipt of another role.
use Rattle.std.proofs.Common.{◌≡◌, ◌<◌, ◌≤◌, ℕ, Bool, true, false, List, length, map, Option, Some, None, ◌⊎◌}
use Rattle.std.specs.Prelude.{slice_index_or}
use Rattle.mps_base.specs.declared.action.Step.{Step}
use Rattle.mps_history.specs.Steps.{IsIn, within}
use Rattle.mps_history.specs.Dependence.{is_matched, consequences}
use Rattle.mps_arena.specs.KeyedSteps.{KeyedStep, steps, keyed_at}
use Rattle.mps_links.specs.Marks.{marked_by}

-- the walk stands at a step of the role of t, after u and not after t
pub record IsAhead (es : List KeyedStep) (walk : Option ℕ) (u t : Step) : Type 0 where
  pub keyed : KeyedStep
  pub at : walk ≡ Some keyed.key
  pub found : keyed_at keyed.key es ≡ Some keyed
  pub role : keyed.step.role ≡ t.role
  pub after : u.id < keyed.step.id
  pub upto : keyed.step.id ≤ t.id

-- the first receipt of the role of t doesn't come after t
pub record IsCovered (es : List KeyedStep) (firsts : List (Option ℕ)) (t : Step) : Type 0 where
  pub keyed : KeyedStep
  pub at : slice_index_or firsts t.role None ≡ Some keyed.key
  pub found : keyed_at keyed.key es ≡ Some keyed
  pub role : keyed.step.role ≡ t.role
  pub upto : keyed.step.id ≤ t.id

-- the key is that of the step of number n, or of a step that depends on it
pub record IsReached (es : List KeyedStep) (n k : ℕ) : Type 0 where
  pub keyed : KeyedStep
  pub found : keyed_at k es ≡ Some keyed
  pub reached : consequences (steps es) n keyed.step.id ≡ true

-- the walk begins at the step of number n
pub record IsRoot (es : List KeyedStep) (walk : Option ℕ) (n : ℕ) : Type 0 where
  pub keyed : KeyedStep
  pub at : walk ≡ Some keyed.key
  pub found : keyed_at keyed.key es ≡ Some keyed
  pub number : keyed.step.id ≡ n

-- which steps are marked, and what leads on to those that are still to be marked
pub record IsSpread (es now : List KeyedStep) (n : ℕ) (walk : Option ℕ) (firsts : List (Option ℕ)) (count : ℕ) : Type 0 where
  pub set : ℕ → Bool
  pub marks : now ≡ map (marked_by set) es
  pub counted : count ≡ length (within (steps es) set)
  pub size : length firsts ≡ 8
  pub root : (set n ≡ true) ⊎ IsRoot es walk n
  pub inside : (t : Step) → IsIn t (steps es) → set t.id ≡ true → consequences (steps es) n t.id ≡ true
  pub walking : (k : ℕ) → walk ≡ Some k → (r : IsReached es n k) × (set r.keyed.step.id ≡ false)
  pub waiting : (p k : ℕ) → slice_index_or firsts p None ≡ Some k → (r : IsReached es n k) × (r.keyed.step.role ≡ p)
  pub chained : (u t : Step) → IsIn u (steps es) → IsIn t (steps es) → set u.id ≡ true → u.id < t.id → u.role ≡ t.role
      → (set t.id ≡ true) ⊎ IsAhead es walk u t
  pub matched : (u t : Step) → IsIn u (steps es) → IsIn t (steps es) → set u.id ≡ true → u.id < t.id → is_matched (steps es) u t ≡ true
      → IsCovered es firsts t
