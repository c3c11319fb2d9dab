-- The first keyed step that passes a test.
use Rattle.std.proofs.Common.{◌≡◌, ℕ, ◌<◌, Bool, true, false, List, [], ◌∷◌, ◌++◌, cond, Some, None, refl, sym, ap, ◌∙◌, subst, arith, ⊎_elim, append_assoc}
use Rattle.std.specs.Prelude.{◌||◌}
use Rattle.std.specs.List.{find}
use Rattle.std.specs.Option.{option_map, option_and_then}
use Rattle.std.proofs.lemmas.Bool.{cases_Bool, lt-ltb, le-ltb, or_left, or_right}
use Rattle.mps_base.specs.declared.action.Step.{Step}
use Rattle.mps_history.specs.Steps.{IsIn, IsRising}
use Rattle.mps_history.proofs.Order.{at_member, IsRising-append_right}
use Rattle.mps_arena.specs.Keys.{AreDistinct, first_key}
use Rattle.mps_arena.specs.KeyedSteps.{KeyedStep, steps, keys_of, any_step, keyed_at}
use Rattle.mps_arena.specs.Neighbours.{id_in}
use Rattle.mps_arena.proofs.Chains.{keys_with, keys_without, keyed_middle}
use Rattle.mps_links.specs.Private.Order.{earlier}
use Rattle.mps_links.proofs.StepKeys.{cases_key, steps_around, in_middle}

-- the first keyed step of the list that passes, where it stands
pub record IsFirst (p : Step → Bool) (b : List KeyedStep) (k : ℕ) : Type 0 where
  pub before : List KeyedStep
  pub keyed : KeyedStep
  pub behind : List KeyedStep
  pub parts : b ≡ before ++ keyed ∷ behind
  pub key : keyed.key ≡ k
  pub passes : p keyed.step ≡ true
  pub none : keys_of p before ≡ []

pub first_is : (p : Step → Bool) (b : List KeyedStep) (k : ℕ) → first_key (keys_of p b) ≡ Some k → IsFirst p b k
first_is p [] k e = absurd cc
first_is p (y ∷ b) k e =
    ⊎_elim
    (λ (t : p y.step ≡ true).
    let same : y.key ≡ k = cc in
    record { before = []; keyed = y; behind = b; parts = refl; key = same; passes = t; none = refl })
    (λ (f : p y.step ≡ false).
    let w = first_is p b k (sym (ap first_key (keys_without p y b f)) ∙ e) in
    record { before = y ∷ w.before; keyed = w.keyed; behind = w.behind; parts = ap (λ l. y ∷ l) w.parts; key = w.key; passes = w.passes; none = keys_without p y w.before f ∙ w.none })
    (cases_Bool (p y.step))

pub same_either : {A : Type 0} (b : Bool) (x : A) → x ≡ cond b x x
same_either b x = grind arith

module _ (es : List KeyedStep) (d : AreDistinct (keys_of any_step es)) (rising : IsRising (steps es)) where
  pub keyed_in : (a b : List KeyedStep) (x : KeyedStep) → es ≡ a ++ x ∷ b → keyed_at x.key es ≡ Some x
  keyed_in a b x e = subst (λ (l : List KeyedStep). keyed_at x.key l ≡ Some x) (sym e) (keyed_middle a b x (subst (λ (l : List KeyedStep). AreDistinct (keys_of any_step l)) e d))

  pub id_middle : (a b : List KeyedStep) (x : KeyedStep) → es ≡ a ++ x ∷ b → id_in es x.key ≡ Some x.step.id
  id_middle a b x e = ap (option_map (λ (y : KeyedStep). y.step.id)) (keyed_in a b x e)

  -- the steps after a step have larger numbers
  pub rising_behind : (a b : List KeyedStep) (x : KeyedStep) (t : Step) → es ≡ a ++ x ∷ b → IsIn t (steps b) → x.step.id < t.id
  rising_behind a b x t e i = grind (arith, IsRising-append_right, steps_around, at_member)

  -- a first keyed step after another has a larger number
  pub first_behind : (p : Step → Bool) (a b : List KeyedStep) (y : KeyedStep) (k : ℕ) → es ≡ a ++ y ∷ b → first_key (keys_of p b) ≡ Some k → (n : ℕ) × ((id_in es k ≡ Some n) × (y.step.id < n))
  first_behind p a b y k e first =
      let w = first_is p b k first in
      let whole : es ≡ (a ++ y ∷ w.before) ++ w.keyed ∷ w.behind = e ∙ ap (λ l. a ++ y ∷ l) w.parts ∙ sym (append_assoc a (y ∷ w.before) (w.keyed ∷ w.behind)) in (
        w.keyed.step.id,
        (ap (id_in es) (sym w.key) ∙ id_middle (a ++ y ∷ w.before) w.behind w.keyed whole, rising_behind a b y w.keyed.step e (in_middle b w.before w.behind w.keyed w.parts)),
      )

  pub id_first : (p : Step → Bool) (a b : List KeyedStep) → es ≡ a ++ b → option_and_then (id_in es) (first_key (keys_of p b)) ≡ option_map (λ (s : Step). s.id) (find p (steps b))
  id_first p a [] e = refl
  id_first p a (x ∷ b) e = grind (arith, id_middle a b x e, id_first p (a ++ x ∷ []) b (e ∙ sym (append_assoc a (x ∷ []) b)), cases_Bool (p x.step))

  -- the first keyed step that passes has a number
  pub first_numbered : (p : Step → Bool) (a b : List KeyedStep) → es ≡ a ++ b → option_and_then (id_in es) (first_key (keys_of p b)) ≡ None → first_key (keys_of p b) ≡ None
  first_numbered p a b e n =
      ⊎_elim (λ (z : first_key (keys_of p b) ≡ None). z)
      (λ (w : (k : ℕ) × (first_key (keys_of p b) ≡ Some k)).
      let f = first_is p b w.0 w.1 in
      grind (arith, append_assoc a f.before (f.keyed ∷ f.behind), id_middle))
      (cases_key (first_key (keys_of p b)))

  -- the first keyed step that passes one of two tests is the earlier of the first that pass each
  pub first_or : (f g : Step → Bool) (a b : List KeyedStep) → es ≡ a ++ b → first_key (keys_of (λ t. f t || g t) b) ≡ earlier es (first_key (keys_of f b)) (first_key (keys_of g b))
  first_or f g a [] e = refl
  first_or f g a (y ∷ b) e =
      grind (arith, keys_with, or_left, same_either, keys_without, first_behind, id_middle, lt-ltb, cases_key, cases_Bool, or_right, le-ltb, first_or f g (a ++ y ∷ []) b (e ∙ sym (append_assoc a (y ∷ []) b)))
