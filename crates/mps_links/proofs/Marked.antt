-- The marked steps, by their numbers and by their keyed steps.
use Rattle.std.proofs.Common.{◌≡◌, ◌<◌, ℕ, true, false, List, [], ◌∷◌, ◌++◌, map, refl, sym, ap, ◌∙◌, subst, arith, inl, inr, eq-eqb, append_assoc}
use Rattle.std.specs.Prelude.{◌==◌, ◌&&◌}
use Rattle.std.specs.List.{filter}
use Rattle.std.proofs.lemmas.Bool.{cases_Bool, cond-true, cond-false, ne_eqb, and_right, or_from}
use Rattle.mps_base.specs.declared.action.Step.{Step}
use Rattle.mps_history.specs.Steps.{IsIn, IsRising}
use Rattle.mps_history.proofs.Order.{at_member}
use Rattle.mps_arena.specs.KeyedSteps.{KeyedStep, steps, keys_of}
use Rattle.mps_links.specs.Marks.{marked_keys, is_marked, marked_steps}
use Rattle.mps_links.proofs.StepKeys.{in_middle}

none_marked : (b : List KeyedStep) (n : ℕ) → ((t : Step) → IsIn t (steps b) → (t.id == n) ≡ false) → is_marked b n ≡ false
none_marked [] n f = refl
none_marked (y ∷ b) n f = or_from (y.marked && y.step.id == n) (is_marked b n) (and_right y.marked (y.step.id == n) (f y.step (inl refl))) (none_marked b n (λ t i. f t (inr i)))

marked_in : (a b : List KeyedStep) (x : KeyedStep) → IsRising (steps (a ++ x ∷ b)) → is_marked (a ++ x ∷ b) x.step.id ≡ x.marked
marked_in [] b x r = grind (arith, eq-eqb, none_marked, at_member, ne_eqb, cases_Bool)
marked_in (y ∷ a) b x r =
    let less = at_member (λ u. y.step.id < u.id) (steps (a ++ x ∷ b)) x.step r.0 (in_middle (a ++ x ∷ b) a b x refl) in
    rw (and_right y.marked (y.step.id == x.step.id) (ne_eqb y.step.id x.step.id (λ e. omega arith))) (marked_in a b x r.1)

-- a step of a keyed step is marked where the keyed step is
pub marked_here : (es a b : List KeyedStep) (x : KeyedStep) → IsRising (steps es) → es ≡ a ++ x ∷ b → is_marked es x.step.id ≡ x.marked
marked_here es a b x r e = ap (λ (l : List KeyedStep). is_marked l x.step.id) e ∙ marked_in a b x (subst (λ (l : List KeyedStep). IsRising (steps l)) e r)

pub marked_with : (y : KeyedStep) (b : List KeyedStep) → y.marked ≡ true → marked_keys (y ∷ b) ≡ y.key ∷ marked_keys b
marked_with y b t = ap (map (λ e. e.key)) (cond-true y.marked (y ∷ filter (λ e. e.marked) b) (filter (λ e. e.marked) b) t)

pub marked_without : (y : KeyedStep) (b : List KeyedStep) → y.marked ≡ false → marked_keys (y ∷ b) ≡ marked_keys b
marked_without y b f = ap (map (λ e. e.key)) (cond-false y.marked (y ∷ filter (λ e. e.marked) b) (filter (λ e. e.marked) b) f)

-- the keys of the marked keyed steps are those of the marked steps
pub keys_from : (es : List KeyedStep) → IsRising (steps es) → (a b : List KeyedStep) → es ≡ a ++ b → keys_of (λ s. is_marked es s.id) b ≡ marked_keys b
keys_from es r a [] e = refl
keys_from es r a (y ∷ b) e = grind (arith, marked_here es a b y r e, keys_from es r (a ++ y ∷ []) b (e ∙ sym (append_assoc a (y ∷ []) b)), cases_Bool y.marked)

pub keys_marked : (es : List KeyedStep) → IsRising (steps es) → keys_of (λ s. is_marked es s.id) es ≡ marked_keys es
keys_marked es r = keys_from es r [] es refl

-- the marked steps by their numbers
steps_from : (es : List KeyedStep) → IsRising (steps es) → (a b : List KeyedStep) → es ≡ a ++ b → filter (λ s. is_marked es s.id) (steps b) ≡ marked_steps b
steps_from es r a [] e = refl
steps_from es r a (y ∷ b) e = grind (arith, marked_here es a b y r e, steps_from es r (a ++ y ∷ []) b (e ∙ sym (append_assoc a (y ∷ []) b)), cases_Bool y.marked)

pub steps_marked : (es : List KeyedStep) → IsRising (steps es) → filter (λ s. is_marked es s.id) (steps es) ≡ marked_steps es
steps_marked es r = steps_from es r [] es refl
