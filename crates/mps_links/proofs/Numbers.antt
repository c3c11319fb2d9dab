-- The keyed step of a number.
use Rattle.std.proofs.Common.{arith, ◌≡◌, ℕ, true, false, List, [], ◌∷◌, ◌++◌, Option, Some, sym, ap, ◌∙◌, subst, ⊎_elim}
use Rattle.std.specs.Prelude.{◌==◌, IsSome}
use Rattle.std.specs.List.{find}
use Rattle.std.specs.Option.{option_map}
use Rattle.std.proofs.lemmas.Bool.{cases_Bool, cond-true, cond-false, eqb-true, false≢true}
use Rattle.mps_base.specs.declared.action.Step.{Step}
use Rattle.mps_history.specs.Steps.{step_of}
use Rattle.mps_arena.specs.KeyedSteps.{KeyedStep, steps}
use Rattle.mps_arena.proofs.Numbers.{find_split}

found_by_number : (es : List KeyedStep) (n : ℕ) → IsSome (step_of (steps es) n) → (y : KeyedStep) × (find (λ e. e.step.id == n) es ≡ Some y)
found_by_number [] n h = absurd (false≢true h)
found_by_number (x ∷ es) n h =
    ⊎_elim
    (λ (t : (x.step.id == n) ≡ true). (x, cond-true (x.step.id == n) (Some x) (find (λ e. e.step.id == n) es) t))
    (λ (f : (x.step.id == n) ≡ false).
    let w = found_by_number es n (subst (λ (o : Option Step). IsSome o) (cond-false (x.step.id == n) (Some x.step) (step_of (steps es) n) f) h) in
    (w.0, cond-false (x.step.id == n) (Some x) (find (λ e. e.step.id == n) es) f ∙ w.1))
    (cases_Bool (x.step.id == n))

-- where the keyed step of a number stands
pub record IsNumbered (es : List KeyedStep) (n : ℕ) : Type 0 where
  pub before : List KeyedStep
  pub keyed : KeyedStep
  pub behind : List KeyedStep
  pub parts : es ≡ before ++ keyed ∷ behind
  pub number : keyed.step.id ≡ n
  pub key : option_map (λ e. e.key) (find (λ e. e.step.id == n) es) ≡ Some keyed.key

pub numbered : (es : List KeyedStep) (n : ℕ) → IsSome (step_of (steps es) n) → IsNumbered es n
numbered es n h = grind (arith, found_by_number, find_split, eqb-true)

-- a number that leads to a key is that of a step
pub step_there : (es : List KeyedStep) (n k : ℕ) → option_map (λ e. e.key) (find (λ e. e.step.id == n) es) ≡ Some k → IsSome (step_of (steps es) n)
step_there [] n k e = absurd cc
step_there (x ∷ es) n k e =
    ⊎_elim
    (λ (t : (x.step.id == n) ≡ true). rw t cc)
    (λ (f : (x.step.id == n) ≡ false).
    rw f (step_there es n k (sym (ap (option_map (λ (y : KeyedStep). y.key)) (cond-false (x.step.id == n) (Some x) (find (λ e. e.step.id == n) es) f)) ∙ e)))
    (cases_Bool (x.step.id == n))
