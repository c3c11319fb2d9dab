-- Numbers rise, as keyed steps come and go.
use Rattle.std.proofs.Common.{◌≡◌, ℕ, ◌+◌, ◌<◌, List, [], ◌∷◌, ◌++◌, length, Some, sym, subst, arith, append_assoc}
use Rattle.std.proofs.lemmas.List.{map-append}
use Rattle.std.specs.List.{AllByRecursion}
use Rattle.mps_base.specs.declared.action.Step.{Step}
use Rattle.mps_history.specs.Steps.{IsRising}
use Rattle.mps_history.proofs.Order.{IsRising-push}
use Rattle.mps_arena.specs.KeyedSteps.{KeyedStep, steps, keys_of, any_step, keyed_at}
use Rattle.mps_arena.specs.Keys.{AreDistinct}
use Rattle.mps_arena.specs.Private.Kept.{IsIndexed}
use Rattle.mps_arena.proofs.KeyLists.{get_some}
use Rattle.mps_arena.proofs.Chains.{keyed_middle}

module _ (index : List ℕ) where
  -- each number was given out
  all_below : (a b : List KeyedStep) → AreDistinct (keys_of any_step (a ++ b)) → ((k : ℕ) (e : KeyedStep) → keyed_at k (a ++ b) ≡ Some e → IsIndexed index k e) → (n : ℕ) → n ≡ length index + 1 → AllByRecursion (λ t. t.id < n) (steps b)
  all_below a [] d indexed n e = tt
  all_below a (y ∷ b) d indexed n e =
      let i = indexed y.key y (keyed_middle a b y d) in
      let less = get_some index i.place y.key i.key in
      let whole = append_assoc a (y ∷ []) b in (
        omega (arith, less, i.number, e),
        all_below (a ++ y ∷ []) b (subst (λ (es : List KeyedStep). AreDistinct (keys_of any_step es)) (sym whole) d)
            (subst (λ (es : List KeyedStep). (k : ℕ) (e : KeyedStep) → keyed_at k es ≡ Some e → IsIndexed index k e) (sym whole) indexed) n e,
      )

  pub rising_push : (es : List KeyedStep) (e : KeyedStep) → AreDistinct (keys_of any_step es) → ((k : ℕ) (e : KeyedStep) → keyed_at k es ≡ Some e → IsIndexed index k e) → e.step.id ≡ length index + 1 → IsRising (steps es) → IsRising (steps (es ++ e ∷ []))
  rising_push es e d indexed number rising =
      subst IsRising (sym (map-append (λ (x : KeyedStep). x.step) es (e ∷ []))) (IsRising-push (steps es) e.step rising (all_below [] es d indexed e.step.id number))

all_other : (P : Step → Type 0) (a b : List KeyedStep) (x : KeyedStep) → AllByRecursion P (steps (a ++ x ∷ b)) → AllByRecursion P (steps (a ++ b))
all_other P [] b x h = h.1
all_other P (y ∷ a) b x h = (h.0, all_other P a b x h.1)

pub rising_without : (a b : List KeyedStep) (x : KeyedStep) → IsRising (steps (a ++ x ∷ b)) → IsRising (steps (a ++ b))
rising_without [] b x h = h.1
rising_without (y ∷ a) b x h = (all_other (λ t. y.step.id < t.id) a b x h.0, rising_without a b x h.1)
