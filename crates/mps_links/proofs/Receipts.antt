-- The receipt of a send is the first later step that is matched with it.
use Rattle.std.proofs.Common.{◌≡◌, ℕ, zero, suc, ◌+◌, ◌-◌, ◌≤◌, Bool, true, false, List, [], ◌∷◌, ◌++◌, length, refl, sym, ap, ◌∙◌, subst, arith, ⊎_elim, eq-eqb, append_assoc, length-append}
use Rattle.std.specs.Prelude.{◌==◌, ◌&&◌, nat_lt, slice_get}
use Rattle.std.specs.List.{filter}
use Rattle.std.specs.Option.{option_and_then}
use Rattle.std.proofs.lemmas.Bool.{cases_Bool, eqb-true, and_left, and_right, and_from}
use Rattle.mps_base.specs.Effects.{Effect, Gives, effect}
use Rattle.mps_base.specs.declared.action.Message.{Message}
use Rattle.mps_base.specs.declared.action.Step.{Step}
use Rattle.mps_history.specs.Steps.{IsRising, sends, receives, gives_to, takes_from}
use Rattle.mps_history.specs.Dependence.{is_matched, sent_before, received_before}
use Rattle.mps_arena.specs.Keys.{AreDistinct, first_key, matched_key}
use Rattle.mps_arena.specs.KeyedSteps.{KeyedStep, steps, keys_of, like, unlike, AreSound}
use Rattle.mps_arena.specs.Matched.{matched_receipt}
use Rattle.mps_arena.specs.Neighbours.{receipt_in, matched_with}
use Rattle.mps_arena.proofs.KeyLists.{once, matched_key_middle}
use Rattle.mps_arena.proofs.Chains.{keys-append, keys_with, keys_without, keys_push, keys_kept, keys_around, keys_beside, distinct}
use Rattle.mps_history.proofs.MatchingByPlace.{before_place}
use Rattle.mps_arena.proofs.Histories.{count_steps}
use Rattle.mps_links.proofs.StepKeys.{eqb_turned, steps_around, keys_agree, keys_none}
use Rattle.mps_links.proofs.Firsts.{keyed_in}

-- how many steps that pass stand before a keyed step
count_before : (p : Step → Bool) (es a b : List KeyedStep) (x : KeyedStep) → IsRising (steps es) → es ≡ a ++ x ∷ b → length (filter (λ y. nat_lt y.id x.step.id && p y) (steps es)) ≡ length (keys_of p a)
count_before p es a b x r parts =
    let e = ap steps parts ∙ steps_around a b x in
    ap (λ (l : List Step). length (filter (λ y. nat_lt y.id x.step.id && p y) l)) e ∙ ap length (before_place p (steps a) (steps b) x.step (subst IsRising e r)) ∙ count_steps p a

pub get_behind : (c d : List ℕ) (j n : ℕ) → length c + j ≡ n → slice_get (c ++ d) n ≡ slice_get d j
get_behind [] d j n e = let same : n ≡ j = omega arith in ap (slice_get d) same
get_behind (k ∷ c) d j zero e = absurd (omega arith)
get_behind (k ∷ c) d j (suc n) e = get_behind c d j n (omega arith)

module _ (es : List KeyedStep) (sound : AreSound es) (a b : List KeyedStep) (x : KeyedStep) (parts : es ≡ a ++ x ∷ b) where
  abbrev s : Step
  s = x.step

  module _ (q : ℕ) where
    abbrev got : Step → Bool
    got = receives s.role q

    -- how many sends of the pair stand before s
    abbrev before : ℕ
    before = sent_before s.role q s.id (steps es)

    -- t is the receipt that stands at the place of s
    abbrev fits : Step → Bool
    fits t = got t && before == received_before s.role q t.id (steps es)

    shift : (c e : List KeyedStep) (y : KeyedStep) → es ≡ c ++ y ∷ e → es ≡ (c ++ y ∷ []) ++ e
    shift c e y is = is ∙ sym (append_assoc c (y ∷ []) e)

    at_place : (c e : List KeyedStep) (j : ℕ) → es ≡ c ++ e → length (keys_of got c) + j ≡ before → slice_get (keys_of got e) j ≡ first_key (keys_of fits e)
    at_place c [] j is n = refl
    at_place c (y ∷ e) zero is n =
        let place : received_before s.role q y.step.id (steps es) ≡ length (keys_of got c) = count_before got es c e y sound.rising is in
        ⊎_elim
        (grind (arith, eq-eqb, keys_with, and_from))
        (λ (f : got y.step ≡ false).
        rw (keys_without got y e f, keys_without fits y e (and_left (got y.step) (before == received_before s.role q y.step.id (steps es)) f))
        (at_place (c ++ y ∷ []) e zero (shift c e y is) (ap (λ l. length l + zero) (keys_kept got c y f) ∙ n)))
        (cases_Bool (got y.step))
    at_place c (y ∷ e) (suc j) is n =
        let place : received_before s.role q y.step.id (steps es) ≡ length (keys_of got c) = count_before got es c e y sound.rising is in
        ⊎_elim
        (λ (t : got y.step ≡ true).
        grind (arith, keys_with got y e t, at_place (c ++ y ∷ []) e j (shift c e y is) (omega (arith, n, ap length (keys_push got c y t), length-append (keys_of got c) (y.key ∷ [])))))
        (λ (f : got y.step ≡ false).
        rw (keys_without got y e f, keys_without fits y e (and_left (got y.step) (before == received_before s.role q y.step.id (steps es)) f))
        (at_place (c ++ y ∷ []) e (suc j) (shift c e y is) (ap (λ l. length l + suc j) (keys_kept got c y f) ∙ n)))
        (cases_Bool (got y.step))

    module _ (m : Message) (act : effect s.act ≡ Gives q m) where
      match : (t : Step) → is_matched (steps es) s t ≡ fits t
      match t = grind (arith, eqb-true, eq-eqb, eqb_turned, and_left, cases_Bool)

      pub receipt_of_send : receipt_in es x.key ≡ first_key (keys_of (is_matched (steps es) s) b)
      receipt_of_send =
          let p = sends s.role q in
          let self : p s ≡ true = ap (λ k. k && gives_to q (effect s.act)) (eq-eqb s.role s.role refl) ∙ ap (gives_to q) act ∙ eq-eqb q q refl in
          let quiet : got s ≡ false = and_right (s.role == q) (takes_from s.role (effect s.act)) (ap (takes_from s.role) act) in
          let whole = ap (keys_of p) parts ∙ keys_around p a b x self in
          let o = once x.key (keys_of p a) (keys_of p b) (subst AreDistinct whole (distinct p es sound.distinct)) in
          let n : before ≡ length (keys_of p a) = count_before p es a b x sound.rising parts in
          let front : length (keys_of got a) ≤ length (keys_of p a) = sound.fed a (x ∷ b) parts s.role q in
          let j = length (keys_of p a) - length (keys_of got a) in
          let at : length (keys_of got a) + j ≡ length (keys_of p a) = omega arith in
          let receipts : keys_of got es ≡ keys_of got a ++ keys_of got b = ap (keys_of got) parts ∙ keys_beside got a b x quiet ∙ keys-append got a b in
          let kept : keys_of got (a ++ x ∷ []) ≡ keys_of got a = keys_kept got a x quiet in
          ap (option_and_then (λ (y : KeyedStep). matched_receipt (effect y.step.act) (matched_with es y))) (keyed_in es sound.distinct sound.rising a b x parts)
          ∙ ap (λ (c : Effect). matched_receipt c (matched_with es x)) act
          ∙ ap (λ (c : Effect). matched_key x.key (keys_of (like s.role c) es) (keys_of (unlike s.role c) es)) act
          ∙ ap (λ c. matched_key x.key c (keys_of got es)) whole
          ∙ matched_key_middle x.key (keys_of p a) (keys_of p b) (keys_of got es) o.0
          ∙ ap (λ l. slice_get l (length (keys_of p a))) receipts
          ∙ get_behind (keys_of got a) (keys_of got b) j (length (keys_of p a)) at
          ∙ at_place (a ++ x ∷ []) b j (shift a b x parts) (ap (λ l. length l + j) kept ∙ at ∙ sym n)
          ∙ ap first_key (keys_agree fits (is_matched (steps es) s) b (λ t i. sym (match t)))

  pub receipt_is : receipt_in es x.key ≡ first_key (keys_of (is_matched (steps es) s) b)
  receipt_is = grind (arith, receipt_of_send, keyed_in, keys_none, and_left, and_right)
