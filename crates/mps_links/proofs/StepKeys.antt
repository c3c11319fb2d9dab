-- The keys of the steps that pass a test, by the steps.
use Rattle.std.proofs.Common.{arith, ◌≡◌, ℕ, Bool, true, false, List, [], ◌∷◌, ◌++◌, Option, Some, None, refl, sym, ap, ◌∙◌, subst, ⊎_elim, ◌⊎◌, inl, inr}
use Rattle.std.specs.Prelude.{◌==◌}
use Rattle.std.proofs.lemmas.Bool.{cases_Bool}
use Rattle.std.proofs.lemmas.List.{map-append}
use Rattle.mps_base.specs.declared.action.Step.{Step}
use Rattle.mps_history.specs.Steps.{IsIn}
use Rattle.mps_history.proofs.Order.{IsIn-append_right}
use Rattle.mps_arena.specs.Keys.{first_key}
use Rattle.mps_arena.specs.KeyedSteps.{KeyedStep, steps, keys_of}
use Rattle.mps_arena.proofs.Chains.{keys_without}

pub cases_key : (o : Option ℕ) → (o ≡ None) ⊎ ((k : ℕ) × (o ≡ Some k))
cases_key None = inl refl
cases_key (Some k) = inr (k, refl)

pub eqb_turned : (a b : ℕ) → (a == b) ≡ (b == a)
eqb_turned a b = grind (arith, cases_Bool (a == b))

pub steps_around : (a b : List KeyedStep) (x : KeyedStep) → steps (a ++ x ∷ b) ≡ steps a ++ x.step ∷ steps b
steps_around a b x = map-append (λ (e : KeyedStep). e.step) a (x ∷ b)

pub in_middle : (es a b : List KeyedStep) (x : KeyedStep) → es ≡ a ++ x ∷ b → IsIn x.step (steps es)
in_middle es a b x e = subst (λ (l : List Step). IsIn x.step l) (sym (ap steps e ∙ steps_around a b x)) (IsIn-append_right x.step (steps a) (x.step ∷ steps b) (inl refl))

-- tests that agree on the steps
pub keys_agree : (p q : Step → Bool) (b : List KeyedStep) → ((t : Step) → IsIn t (steps b) → p t ≡ q t) → keys_of p b ≡ keys_of q b
keys_agree p q [] e = refl
keys_agree p q (y ∷ b) e =
    let rest = keys_agree p q b (λ t i. e t (inr i)) in
    grind (arith, cases_Bool (q y.step))

pub keys_none : (p : Step → Bool) (b : List KeyedStep) → ((t : Step) → IsIn t (steps b) → p t ≡ false) → keys_of p b ≡ []
keys_none p [] n = refl
keys_none p (y ∷ b) n = keys_without p y b (n y.step (inl refl)) ∙ keys_none p b (λ t i. n t (inr i))

pub none_passes : (p : Step → Bool) (b : List KeyedStep) (t : Step) → keys_of p b ≡ [] → IsIn t (steps b) → p t ≡ false
none_passes p [] t e i = absurd i
none_passes p (y ∷ b) t e i =
    ⊎_elim
    (λ (u : p y.step ≡ true). absurd cc)
    (λ (f : p y.step ≡ false).
    ⊎_elim (λ (s : t ≡ y.step). ap p s ∙ f) (λ (j : IsIn t (steps b)). none_passes p b t (sym (keys_without p y b f) ∙ e) j) i)
    (cases_Bool (p y.step))

pub nothing_first : (c : List ℕ) → first_key c ≡ None → c ≡ []
nothing_first c e = grind arith
