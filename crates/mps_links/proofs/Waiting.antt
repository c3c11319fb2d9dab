-- The first send of a pair that isn't received, from the last send back: for the tests, which make histories.
use Rattle.std.proofs.Common.{◌≡◌, ◌≤◌, ◌+◌, ℕ, Bool, true, false, List, [], ◌∷◌, ◌++◌, length, Option, Some, None, refl, sym, ap, ◌∙◌, subst, arith, eq-eqb, append_assoc, append-nil, length-append}
use Rattle.std.specs.Prelude.{slice_get}
use Rattle.std.proofs.lemmas.Bool.{cases_Bool}
use Rattle.mps_base.specs.declared.action.Step.{Step}
use Rattle.mps_history.specs.Steps.{sends, receives}
use Rattle.mps_arena.specs.Keys.{AreDistinct, is_at, has, first_key, last_key}
use Rattle.mps_arena.specs.KeyedSteps.{KeyedStep, keys_of, keyed_at, AreSound}
use Rattle.mps_arena.specs.Neighbours.{first_waiting, receipt_in, prev_send_in}
use Rattle.mps_arena.proofs.KeyLists.{once, before_absent, matched_key_middle, get_none, get_some, last_in, has-append_left}
use Rattle.mps_arena.proofs.Chains.{distinct, passes, keyed_key}
use Rattle.mps_arena.proofs.Matched.{matched_of, sends_pair, sends_chain}
use Rattle.mps_links.proofs.Lasts.{nothing_last}
use Rattle.mps_links.proofs.Present.{there, chained_there}
use Rattle.mps_links.proofs.Receipts.{get_behind}

few : (p : Step → Bool) (es : List KeyedStep) → length (keys_of p es) ≤ length es
few p [] = omega arith
few p (y ∷ es) = grind (arith, few p es, cases_Bool (p y.step))

-- a list by its last key
but_last : (k : ℕ) (l : List ℕ) → last_key None l ≡ Some k → (m : List ℕ) × (l ≡ m ++ k ∷ [])
but_last k [] e = absurd cc
but_last k (j ∷ []) e = let same : j ≡ k = cc in ([], ap (λ n. n ∷ []) same)
but_last k (j ∷ i ∷ l) e = let w = but_last k (i ∷ l) e in (j ∷ w.0, ap (λ m. j ∷ m) w.1)

module _ (es : List KeyedStep) (sound : AreSound es) (p q : ℕ) where
  abbrev sent : List ℕ
  sent = keys_of (sends p q) es

  abbrev got : List ℕ
  got = keys_of (receives p q) es

  -- the sends up to a key are at least as many as the receipts, and those after it wait
  pub record IsSought (at first : Option ℕ) (turns : ℕ) : Type 0 where
    pub front : List ℕ
    pub back : List ℕ
    pub parts : sent ≡ front ++ back
    pub key : at ≡ last_key None front
    pub waits : first ≡ first_key back
    pub enough : length got ≤ length front
    pub count : turns ≤ length back

  pub sought : IsSought (last_key None sent) None 0
  sought = record { front = sent; back = []; parts = sym (append-nil sent); key = refl; waits = refl; enough = matched_of es sound.fed p q; count = omega arith }

  first_get : (l : List ℕ) → slice_get l 0 ≡ first_key l
  first_get l = grind arith

  module _ (at first : Option ℕ) (turns : ℕ) (w : IsSought at first turns) where
    found : length got ≡ length w.front → first ≡ first_waiting es p q
    found e =
        let whole : length w.front + 0 ≡ length got = omega (arith, e) in
        w.waits ∙ sym (ap (λ l. slice_get l (length got)) w.parts ∙ get_behind w.front w.back 0 (length got) whole ∙ first_get w.back)

    pub found_first : at ≡ None → first ≡ first_waiting es p q
    found_first e = grind (arith, nothing_last, found)

    pub found_last : length es ≤ turns → first ≡ first_waiting es p q
    found_last long = found (omega (arith, long, w.count, w.enough, few (sends p q) es, ap length w.parts, length-append w.front w.back))

    module _ (k : ℕ) (is : at ≡ Some k) where
      split : (m : List ℕ) × (w.front ≡ m ++ k ∷ [])
      split = but_last k w.front (sym w.key ∙ is)

      abbrev before : List ℕ
      before = split.0

      whole : sent ≡ before ++ k ∷ w.back
      whole = w.parts ∙ ap (λ l. l ++ w.back) split.1 ∙ append_assoc before (k ∷ []) w.back

      size : length w.front ≡ length before + 1
      size = ap length split.1 ∙ length-append before (k ∷ [])

      apart : (has k before ≡ false) × (has k w.back ≡ false)
      apart = once k before w.back (subst AreDistinct whole (distinct (sends p q) es sound.distinct))

      chained : has k sent ≡ true
      chained = ap (has k) w.parts ∙ has-append_left k w.front w.back (last_in w.front k (ap (λ o. is_at o k) (sym w.key ∙ is) ∙ eq-eqb k k refl))

      keyed : (e : KeyedStep) × (keyed_at k es ≡ Some e)
      keyed = there k es (chained_there (sends p q) k es chained)

      sending : sends p q keyed.0.step ≡ true
      sending = passes (sends p q) k es keyed.0 sound.distinct keyed.1 chained

      receipt_is : receipt_in es k ≡ slice_get got (length before)
      receipt_is =
          let e = keyed.0 in
          grind (arith, sends_pair p q e.step sending, keyed_key k es e keyed.1, whole, matched_key_middle k before w.back got apart.0)

      pub found_received : (r : ℕ) → receipt_in es k ≡ Some r → first ≡ first_waiting es p q
      found_received r e = let less = get_some got (length before) r (sym receipt_is ∙ e) in found (omega (arith, less, size, w.enough))

      pub seeks : receipt_in es k ≡ None → IsSought (prev_send_in es k) at (turns + 1)
      seeks e = grind (arith, get_none got (length before) (sym receipt_is ∙ e), whole, keyed_key k es keyed.0 keyed.1, sends_chain p q keyed.0.step sending, before_absent None k before (k ∷ w.back) apart.0, eq-eqb k k refl)
