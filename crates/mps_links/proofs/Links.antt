-- What depends directly on a step: its role's next step and its receipt come first.
use Rattle.std.proofs.Common.{◌≡◌, Bool, List, [], ◌∷◌, ◌++◌, Some, None, refl, sym, ap, ◌∙◌, subst, arith, inl, eq-eqb, append_assoc}
use mathlib.Core.Path.{ap₂}
use Rattle.std.specs.Prelude.{◌==◌, ◌||◌, nat_lt}
use Rattle.std.specs.Option.{option_and_then}
use Rattle.std.proofs.lemmas.Bool.{lt-ltb, le-ltb, and_left, or_parts}
use Rattle.mps_base.specs.Effects.{Effect, Gives, Takes, Idle}
use Rattle.mps_base.specs.declared.action.Step.{Step}
use Rattle.mps_history.specs.Steps.{IsIn, IsRising}
use Rattle.mps_history.specs.Dependence.{is_matched, depends_on, least, dependents}
use Rattle.mps_history.proofs.Order.{rising_apart}
use Rattle.mps_arena.specs.Keys.{first_key, last_key, key_after}
use Rattle.mps_arena.specs.KeyedSteps.{KeyedStep, steps, keys_of, of_role, keyed_at, AreSound}
use Rattle.mps_arena.specs.Matched.{matched_receipt}
use Rattle.mps_arena.specs.Neighbours.{id_in, next_of_role_in, prev_of_role_in, receipt_in, matched_with, CanGo, IsUnreceived}
use Rattle.mps_arena.proofs.KeyLists.{once, after_absent, before_absent}
use Rattle.mps_arena.proofs.Chains.{keys-append, keys_without, keys_around, distinct}
use Rattle.mps_links.specs.Private.Order.{earlier}
use Rattle.mps_links.proofs.StepKeys.{eqb_turned, steps_around, in_middle, keys_agree, keys_none, none_passes, nothing_first}
use Rattle.mps_links.proofs.Firsts.{keyed_in, rising_behind, id_first, first_or}
use Rattle.mps_links.proofs.Least.{least_is}
use Rattle.mps_links.proofs.Receipts.{receipt_is}

module _ (es : List KeyedStep) (sound : AreSound es) (a b : List KeyedStep) (x : KeyedStep) (parts : es ≡ a ++ x ∷ b) where
  abbrev s : Step
  s = x.step

  abbrev on_s : Step → Bool
  on_s t = depends_on (steps es) t s

  found : keyed_at x.key es ≡ Some x
  found = keyed_in es sound.distinct sound.rising a b x parts

  next_after : key_after x.key (keys_of (of_role s.role) es) ≡ first_key (keys_of (of_role s.role) b)
  next_after = grind (arith, keys_around, eq-eqb, once, distinct, after_absent)

  pub next_is : next_of_role_in es x.key ≡ first_key (keys_of (of_role s.role) b)
  next_is = grind (arith, found, keys_around, eq-eqb, once, distinct, after_absent)

  pub prev_is : prev_of_role_in es x.key ≡ last_key None (keys_of (of_role s.role) a)
  prev_is = grind (arith, keys_around, eq-eqb, once, distinct, found, before_absent)

  -- after the step, what depends on it is of its role or its receipt
  pub on_later : (t : Step) → IsIn t (steps b) → on_s t ≡ (of_role s.role t || is_matched (steps es) s t)
  on_later t i = search (rising_behind, lt-ltb, eqb_turned, arith)

  pub first_dependent : first_key (keys_of on_s b) ≡ earlier es (next_of_role_in es x.key) (receipt_in es x.key)
  first_dependent =
      ap first_key (keys_agree on_s (λ t. of_role s.role t || is_matched (steps es) s t) b on_later)
      ∙ first_or es sound.distinct sound.rising (of_role s.role) (is_matched (steps es) s) (a ++ x ∷ []) b (parts ∙ sym (append_assoc a (x ∷ []) b))
      ∙ ap₂ (earlier es) (sym next_is) (sym (receipt_is es sound a b x parts))

  -- no step before it, nor itself, depends on it
  none_earlier : keys_of on_s es ≡ keys_of on_s b
  none_earlier =
      let r : IsRising (steps a ++ s ∷ steps b) = subst IsRising (ap steps parts ∙ steps_around a b x) sound.rising in
      let front : keys_of on_s a ≡ [] = keys_none on_s a (λ t i. let less = rising_apart (steps a) (s ∷ steps b) t s r i (inl refl) in and_left (nat_lt s.id t.id) (s.role == t.role || is_matched (steps es) s t) (le-ltb s.id t.id (omega arith))) in
      grind (arith, keys-append, keys_without, and_left, le-ltb)

  pub least_by_links : least (dependents (steps es) s.id) ≡ option_and_then (id_in es) (earlier es (next_of_role_in es x.key) (receipt_in es x.key))
  least_by_links = cc (least_is (steps es) s sound.rising (in_middle es a b x parts), id_first es sound.distinct sound.rising on_s [] es refl, none_earlier, first_dependent)

  -- a step on which nothing depends directly may go
  pub alone_can_go : first_key (keys_of on_s b) ≡ None → CanGo es x.key
  alone_can_go e =
      let none = nothing_first (keys_of on_s b) e in
      let neither = λ (t : Step) (i : IsIn t (steps b)). or_parts (of_role s.role t) (is_matched (steps es) s t) (sym (on_later t i) ∙ none_passes on_s b t none i) in
      let at_end : key_after x.key (keys_of (of_role s.role) es) ≡ None = next_after ∙ ap first_key (keys_none (of_role s.role) b (λ t i. (neither t i).0)) in
      let receipt : receipt_in es x.key ≡ None = receipt_is es sound a b x parts ∙ ap first_key (keys_none (is_matched (steps es) s) b (λ t i. (neither t i).1)) in
      grind (arith, found)
    where
      unreceived : (c : Effect) → matched_receipt c (matched_with es x) ≡ None → IsUnreceived es x c
      unreceived (Gives q m) e = e
      unreceived (Takes from slot) e = tt
      unreceived Idle e = tt
