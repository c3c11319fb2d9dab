-- Keyed steps marked by a set have the links that they had, and a mark that is set is one number more in the set.
use Rattle.std.proofs.Common.{◌≡◌, ◌<◌, ℕ, Bool, true, false, List, [], ◌∷◌, ◌++◌, map, Option, Some, None, refl, sym, ap, ◌∙◌, subst, arith, inl, inr, eq-eqb}
use mathlib.Core.Path.{ap₂}
use Rattle.std.specs.Prelude.{◌==◌, ◌||◌}
use Rattle.std.specs.Option.{option_map}
use Rattle.std.proofs.lemmas.Bool.{cases_Bool, or_left, ne_eqb}
use Rattle.std.proofs.lemmas.List.{map-append}
use Rattle.mps_base.specs.declared.action.Step.{Step}
use Rattle.mps_history.specs.Steps.{IsIn, IsRising}
use Rattle.mps_history.specs.Dependence.{with}
use Rattle.mps_history.proofs.Order.{at_member, rising_apart, IsRising-append_right}
use Rattle.mps_arena.specs.Keys.{AreDistinct}
use Rattle.mps_arena.specs.KeyedSteps.{KeyedStep, steps, keys_of, any_step, keyed_at, with_mark, AreSound}
use Rattle.mps_arena.specs.Neighbours.{next_of_role_in, receipt_in, id_in}
use Rattle.mps_links.specs.Marks.{marked_by}
use Rattle.mps_links.specs.Private.Order.{earlier}
use Rattle.mps_links.specs.Private.Pending.{mark_at, with_receipt}
use Rattle.mps_links.proofs.Present.{cases_keyed}
use Rattle.mps_links.proofs.StepKeys.{steps_around}
use Rattle.mps_links.proofs.Unmarking.{marked_as, mark_middle}

module _ (set : ℕ → Bool) where
  abbrev marked_all : List KeyedStep → List KeyedStep
  marked_all es = map (marked_by set) es

  keys_kept : (p : Step → Bool) (es : List KeyedStep) → keys_of p (marked_all es) ≡ keys_of p es
  keys_kept p [] = refl
  keys_kept p (x ∷ es) = grind (arith, keys_kept p es, cases_Bool (p x.step))

  pub keyed_kept : (k : ℕ) (es : List KeyedStep) → keyed_at k (marked_all es) ≡ option_map (marked_by set) (keyed_at k es)
  keyed_kept k [] = refl
  keyed_kept k (x ∷ es) = grind (arith, keyed_kept k es, cases_Bool (x.key == k))

  pub steps_kept : (es : List KeyedStep) → steps (marked_all es) ≡ steps es
  steps_kept [] = refl
  steps_kept (x ∷ es) = ap (λ l. x.step ∷ l) (steps_kept es)

  module _ (es : List KeyedStep) where
    pub next_kept : (k : ℕ) → next_of_role_in (marked_all es) k ≡ next_of_role_in es k
    next_kept k = grind (arith, keyed_kept, keys_kept, cases_keyed)

    pub receipt_kept : (k : ℕ) → receipt_in (marked_all es) k ≡ receipt_in es k
    receipt_kept k = grind (arith, keyed_kept, keys_kept, cases_keyed)

    id_kept : (k : ℕ) → id_in (marked_all es) k ≡ id_in es k
    id_kept k = grind (arith, keyed_kept, cases_keyed)

    earlier_kept : (a b : Option ℕ) → earlier (marked_all es) a b ≡ earlier es a b
    earlier_kept None b = refl
    earlier_kept (Some j) None = refl
    earlier_kept (Some j) (Some k) = rw (id_kept j, id_kept k) refl

    pub with_receipt_kept : (o : Option ℕ) (firsts : List (Option ℕ)) → with_receipt (marked_all es) o firsts ≡ with_receipt es o firsts
    with_receipt_kept None firsts = refl
    with_receipt_kept (Some k) firsts = grind (arith, keyed_kept, earlier_kept, cases_keyed)

    pub mark_is : (k : ℕ) (y : KeyedStep) → keyed_at k es ≡ Some y → mark_at (marked_all es) k ≡ Some (set y.step.id)
    mark_is k y found = ap (option_map (λ (e : KeyedStep). e.marked)) (keyed_kept k es ∙ ap (option_map (marked_by set)) found)

  -- one number more, which is no step's of the list
  apart : (n : ℕ) (l : List KeyedStep) → ((t : Step) → IsIn t (steps l) → (t.id == n) ≡ false) → map (marked_by (with set n)) l ≡ marked_all l
  apart n [] others = refl
  apart n (x ∷ l) others =
      ap₂ (λ (z : KeyedStep) (m : List KeyedStep). z ∷ m) (ap (λ b. marked_as (b || set x.step.id) x) (others x.step (inl refl))) (apart n l (λ t i. others t (inr i)))

  -- one step more is marked
  pub mark_set : (es a b : List KeyedStep) (y : KeyedStep) → AreSound es → es ≡ a ++ y ∷ b → map (with_mark y.key true) (marked_all es) ≡ map (marked_by (with set y.step.id)) es
  mark_set es a b y sound parts =
      let r : IsRising (steps a ++ y.step ∷ steps b) = subst IsRising (ap steps parts ∙ steps_around a b y) sound.rising in
      let after = IsRising-append_right (steps a) (y.step ∷ steps b) r in
      let before : map (marked_by (with set y.step.id)) a ≡ marked_all a =
      apart y.step.id a (λ t i. let less = rising_apart (steps a) (y.step ∷ steps b) t y.step r i (inl refl) in ne_eqb t.id y.step.id (λ e. omega arith)) in
      let behind : map (marked_by (with set y.step.id)) b ≡ marked_all b =
      apart y.step.id b (λ t i. let less = at_member (λ u. y.step.id < u.id) (steps b) t after.0 i in ne_eqb t.id y.step.id (λ e. omega arith)) in
      let here : marked_by (with set y.step.id) y ≡ marked_as true y = ap (λ m. marked_as m y) (or_left (y.step.id == y.step.id) (set y.step.id) (eq-eqb y.step.id y.step.id refl)) in
      let all : marked_all es ≡ marked_all a ++ marked_by set y ∷ marked_all b = ap marked_all parts ∙ map-append (marked_by set) a (y ∷ b) in
      ap (map (with_mark y.key true)) all
      ∙ mark_middle true (marked_all a) (marked_all b) (marked_by set y) (subst (λ (l : List KeyedStep). AreDistinct (keys_of any_step l)) all (subst AreDistinct (sym (keys_kept any_step es)) sound.distinct))
      ∙ ap₂ (λ (l m : List KeyedStep). l ++ marked_as true y ∷ m) (sym before) (sym behind)
      ∙ ap (λ (z : KeyedStep). map (marked_by (with set y.step.id)) a ++ z ∷ map (marked_by (with set y.step.id)) b) (sym here)
      ∙ sym (ap (map (marked_by (with set y.step.id))) parts ∙ map-append (marked_by (with set y.step.id)) a (y ∷ b))
