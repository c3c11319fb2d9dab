-- Entries that are there, by their keys.
use Rattle.std.proofs.Common.{arith, ◌≡◌, ◌<◌, ◌++◌, ◌∷◌, ℕ, true, Bool, List, [], Option, Some, None, refl, sym, ap, ◌∙◌, ⊎_elim, ◌⊎◌, inl, inr, eq-eqb}
use Rattle.std.specs.Prelude.{IsSome, IfSome}
use Rattle.std.specs.List.{AllByRecursion}
use Rattle.std.specs.Option.{option_and_then}
use Rattle.std.proofs.lemmas.Bool.{both_ways, false≢true}
use Rattle.mps_base.specs.Effects.{Effect, effect}
use Rattle.mps_base.specs.declared.action.Step.{Step}
use Rattle.mps_arena.specs.Keys.{is_at, has, key_after}
use Rattle.mps_arena.specs.KeyedSteps.{KeyedStep, keys_of, of_role, like, unlike, keyed_at, IsSmall}
use Rattle.mps_arena.specs.Matched.{matched_receipt}
use Rattle.mps_arena.specs.Neighbours.{receipt_in, next_of_role_in, matched_with}
use Rattle.mps_arena.proofs.KeyLists.{matched_key_in, after_in}
use Rattle.mps_arena.proofs.Chains.{absent}
use Rattle.mps_arena.proofs.Numbers.{find_split}

pub cases_keyed : (o : Option KeyedStep) → (o ≡ None) ⊎ ((e : KeyedStep) × (o ≡ Some e))
cases_keyed None = inl refl
cases_keyed (Some e) = inr (e, refl)

pub there : (k : ℕ) (es : List KeyedStep) → IsSome (keyed_at k es) → (e : KeyedStep) × (keyed_at k es ≡ Some e)
there k es h = grind (arith, false≢true, cases_keyed)

pub at_middle : (P : KeyedStep → Type 0) (a b : List KeyedStep) (x : KeyedStep) → AllByRecursion P (a ++ x ∷ b) → P x
at_middle P [] b x h = h.0
at_middle P (y ∷ a) b x h = at_middle P a b x h.1

pub small_at : (k : ℕ) (es : List KeyedStep) (e : KeyedStep) → AllByRecursion (λ e. IsSmall e.step) es → keyed_at k es ≡ Some e → e.step.role < 8
small_at k es e small found = grind (arith, find_split, at_middle)

-- what has a key in a chain is there
pub chained_there : (p : Step → Bool) (k : ℕ) (es : List KeyedStep) → has k (keys_of p es) ≡ true → IsSome (keyed_at k es)
chained_there p k es h = grind (arith, both_ways, absent, cases_keyed)

matched_with_is : (c : Effect) (o : Option ℕ) (j : ℕ) → matched_receipt c o ≡ Some j → o ≡ Some j
matched_with_is c o j e = grind arith

-- the receipt of a step is there
pub receipt_there : (es : List KeyedStep) (k j : ℕ) → receipt_in es k ≡ Some j → IsSome (keyed_at j es)
receipt_there es k j e =
    ⊎_elim
    (λ (n : keyed_at k es ≡ None). absurd cc)
    (λ (w : (y : KeyedStep) × (keyed_at k es ≡ Some y)).
    let y = w.0 in
    let is = matched_with_is (effect y.step.act) (matched_with es y) j (sym (ap (option_and_then (λ (y : KeyedStep). matched_receipt (effect y.step.act) (matched_with es y))) w.1) ∙ e) in
    chained_there (unlike y.step.role (effect y.step.act)) j es
    (matched_key_in y.key j (keys_of (like y.step.role (effect y.step.act)) es) (keys_of (unlike y.step.role (effect y.step.act)) es) (ap (λ o. is_at o j) is ∙ eq-eqb j j refl)))
    (cases_keyed (keyed_at k es))

-- the next step of its role is there
pub next_there : (es : List KeyedStep) (k j : ℕ) → next_of_role_in es k ≡ Some j → IsSome (keyed_at j es)
next_there es k j e =
    ⊎_elim
    (λ (n : keyed_at k es ≡ None). absurd cc)
    (λ (w : (y : KeyedStep) × (keyed_at k es ≡ Some y)).
    let y = w.0 in
    let is = sym (ap (option_and_then (λ (y : KeyedStep). key_after y.key (keys_of (of_role y.step.role) es))) w.1) ∙ e in
    chained_there (of_role y.step.role) j es (after_in y.key j (keys_of (of_role y.step.role) es) (ap (λ o. is_at o j) is ∙ eq-eqb j j refl)))
    (cases_keyed (keyed_at k es))

pub if_some : (P : ℕ → Type 0) (o : Option ℕ) → ((k : ℕ) → o ≡ Some k → P k) → IfSome o P
if_some P o h = grind arith
