-- Entries whose marks change: queues, slots and steps stay.
use Rattle.std.proofs.Common.{arith, ◌≡◌, ℕ, Bool, true, false, List, [], ◌∷◌, ◌++◌, map, Option, refl, sym, ap, ◌∙◌, subst, ⊎_elim}
use mathlib.Core.Path.{ap₂}
use Rattle.std.specs.List.{AllByRecursion}
use Rattle.std.proofs.lemmas.Bool.{cases_Bool}
use Rattle.mps_base.specs.declared.action.Step.{Step}
use Rattle.mps_history.specs.Steps.{IsRising, sends, receives}
use Rattle.mps_arena.specs.Keys.{AreDistinct}
use Rattle.mps_arena.specs.KeyedSteps.{KeyedStep, steps, keys_of, any_step, IsSmall, AreSound}
use Rattle.mps_arena.proofs.Chains.{keys_with, keys_without}
use Rattle.mps_queues.specs.Fronts.{AreFronts}
use Rattle.mps_stores.specs.Stores.{Keys, Naming, rebound, store_after, AreStores}

module _ (m : KeyedStep → Bool) where
  abbrev pub remarked : KeyedStep → KeyedStep
  remarked e = record e { marked = m e }

  abbrev pub again : List KeyedStep → List KeyedStep
  again es = map remarked es

  pub keys_again : (p : Step → Bool) (es : List KeyedStep) → keys_of p (again es) ≡ keys_of p es
  keys_again p [] = refl
  keys_again p (x ∷ es) =
      ⊎_elim
      (λ (t : p x.step ≡ true). keys_with p (remarked x) (again es) t ∙ ap (λ l. x.key ∷ l) (keys_again p es) ∙ sym (keys_with p x es t))
      (λ (f : p x.step ≡ false). keys_without p (remarked x) (again es) f ∙ keys_again p es ∙ sym (keys_without p x es f))
      (cases_Bool (p x.step))

  pub steps_again : (es : List KeyedStep) → steps (again es) ≡ steps es
  steps_again [] = refl
  steps_again (x ∷ es) = ap (λ l. x.step ∷ l) (steps_again es)

  pub all_again : (P : Step → Type 0) (es : List KeyedStep) → AllByRecursion (λ e. P e.step) es → AllByRecursion (λ e. P e.step) (again es)
  all_again P [] a = tt
  all_again P (x ∷ es) a = (a.0, all_again P es a.1)

  parts_again : (es c d : List KeyedStep) → again es ≡ c ++ d → (a : List KeyedStep) × (b : List KeyedStep) × ((es ≡ a ++ b) × (c ≡ again a))
  parts_again es [] d e = ([], es, (refl, refl))
  parts_again [] (y ∷ c) d e = absurd cc
  parts_again (x ∷ es) (y ∷ c) d e =
      let head : remarked x ≡ y = cc in
      let tail : again es ≡ c ++ d = cc in
      let w = parts_again es c d tail in
      (x ∷ w.0, w.1, (ap (λ l. x ∷ l) w.2.0, ap₂ (λ (z : KeyedStep) (l : List KeyedStep). z ∷ l) (sym head) w.2.1))

  pub sound_again : (es : List KeyedStep) → AreSound es → AreSound (again es)
  sound_again es s = record {
    distinct = subst AreDistinct (sym (keys_again any_step es)) s.distinct;
    fed = λ c d e a b. let w = parts_again es c d e in rw (w.2.1, keys_again (receives a b) w.0, keys_again (sends a b) w.0) (s.fed w.0 w.1 w.2.0 a b);
    rising = subst IsRising (sym (steps_again es)) s.rising;
    small = all_again IsSmall es s.small;
  }

  pub fronts_again : (es : List KeyedStep) (fronts : List (Option ℕ)) → AreFronts es fronts → AreFronts (again es) fronts
  fronts_again es fronts f = grind (arith, keys_again)

  rebound_again : (naming : Naming) (p : ℕ) (store : Keys) (es : List KeyedStep) → rebound naming p store (again es) ≡ rebound naming p store es
  rebound_again naming p store [] = refl
  rebound_again naming p store (x ∷ es) = rebound_again naming p (store_after naming p store x) es

  -- where a keyed step of the list stands in the one before
  pub record IsPlace (es c : List KeyedStep) (y : KeyedStep) : Type 0 where
    pub before : List KeyedStep
    pub keyed : KeyedStep
    pub behind : List KeyedStep
    pub parts : es ≡ before ++ keyed ∷ behind
    pub front : c ≡ again before
    pub same : y ≡ remarked keyed

  pub place_again : (es c d : List KeyedStep) (y : KeyedStep) → again es ≡ c ++ y ∷ d → IsPlace es c y
  place_again [] [] d y e = absurd cc
  place_again [] (z ∷ c) d y e = absurd cc
  place_again (x ∷ es) [] d y e =
      let head : y ≡ remarked x = cc in
      record { before = []; keyed = x; behind = es; parts = refl; front = refl; same = head }
  place_again (x ∷ es) (z ∷ c) d y e =
      let head : z ≡ remarked x = cc in
      let tail : again es ≡ c ++ y ∷ d = cc in
      let w = place_again es c d y tail in
      record {
        before = x ∷ w.before;
        keyed = w.keyed;
        behind = w.behind;
        parts = ap (λ l. x ∷ l) w.parts;
        front = ap₂ (λ (v : KeyedStep) (l : List KeyedStep). v ∷ l) head w.front;
        same = w.same;
      }

  pub stores_again : (naming : Naming) (es : List KeyedStep) (stores : List Keys) → AreStores naming es stores → AreStores naming (again es) stores
  stores_again naming es stores s = record {
    each = λ p small. s.each p small ∙ sym (rebound_again naming p [] es);
    traced = λ p name a b e whole is.
        let w = place_again es a b e whole in
        grind (arith, rebound_again);
  }
