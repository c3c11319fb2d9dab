-- The keyed step of a number, and whose step it is.
use Rattle.std.proofs.Common.{arith, ◌≡◌, ℕ, true, false, List, [], ◌∷◌, Option, Some, None, refl, sym, ap, ◌∙◌, subst, ⊎_elim}
use Rattle.std.specs.Prelude.{◌==◌}
use Rattle.std.specs.List.{find}
use Rattle.std.specs.Option.{option_map}
use Rattle.std.proofs.lemmas.Bool.{cases_Bool, cond-true, cond-false, eqb-true}
use Rattle.mps_command.specs.declared.answer.Refusal.TheVariants.{NotYours}
use Rattle.mps_history.specs.Steps.{step_of}
use Rattle.mps_history.proofs.Order.{step_of_member}
use Rattle.mps_machine.specs.Machine.{owner_fault}
use Rattle.mps_arena.specs.KeyedSteps.{KeyedStep, steps, keyed_at, AreSound}
use Rattle.mps_links.proofs.Firsts.{keyed_in}
use Rattle.mps_links.proofs.Numbers.{IsNumbered, numbered, step_there}
use Rattle.mps_links.proofs.StepKeys.{in_middle}

-- the key of the step of that number
abbrev pub key_of : List KeyedStep → ℕ → Option ℕ
key_of es n = option_map (λ e. e.key) (find (λ e. e.step.id == n) es)

pub nothing_numbered : (es : List KeyedStep) (n : ℕ) → key_of es n ≡ None → step_of (steps es) n ≡ None
nothing_numbered [] n e = refl
nothing_numbered (x ∷ es) n e =
    ⊎_elim
    (grind (arith, cond-true))
    (λ (f : (x.step.id == n) ≡ false).
    cond-false (x.step.id == n) (Some x.step) (step_of (steps es) n) f
    ∙ nothing_numbered es n (sym (ap (option_map (λ (y : KeyedStep). y.key)) (cond-false (x.step.id == n) (Some x) (find (λ y. y.step.id == n) es) f)) ∙ e))
    (cases_Bool (x.step.id == n))

module _ (es : List KeyedStep) (sound : AreSound es) (n k : ℕ) (at : key_of es n ≡ Some k) where
  abbrev it : IsNumbered es n
  it = numbered es n (step_there es n k at)

  -- the keyed step of the number has this key
  abbrev pub keyed : KeyedStep
  keyed = it.keyed

  pub number : keyed.step.id ≡ n
  number = it.number

  pub found : keyed_at k es ≡ Some keyed
  found = grind (arith, keyed_in)

  pub step_found : step_of (steps es) n ≡ Some keyed.step
  step_found = subst (λ (m : ℕ). step_of (steps es) m ≡ Some keyed.step) number (step_of_member (steps es) keyed.step sound.rising (in_middle es it.before it.behind keyed it.parts))

  module _ (p : ℕ) where
    owner_is : owner_fault p (step_of (steps es) n) ≡ owner_fault p (Some keyed.step)
    owner_is = ap (owner_fault p) step_found

    pub owned : (keyed.step.role == p) ≡ true → owner_fault p (step_of (steps es) n) ≡ None
    owned t = owner_is ∙ cond-true (keyed.step.role == p) None (Some NotYours) t

    pub not_owned : (keyed.step.role == p) ≡ false → owner_fault p (step_of (steps es) n) ≡ Some NotYours
    not_owned f = owner_is ∙ cond-false (keyed.step.role == p) None (Some NotYours) f

    pub owner : owner_fault p (step_of (steps es) n) ≡ None → keyed.step.role ≡ p
    owner e = grind (arith, eqb-true, not_owned, cases_Bool)
