-- Messages that wait, by the keys of their sends.
use Rattle.std.proofs.Common.{arith, ◌≡◌, ℕ, zero, suc, ◌+◌, ◌<◌, Bool, true, false, List, [], ◌∷◌, ◌++◌, length, Option, Some, None, refl, sym, ap, ◌∙◌, subst, ⊎_elim, inr, eq-eqb, append_assoc}
use Rattle.std.specs.Prelude.{◌==◌, slice_get, IsSome}
use Rattle.std.specs.List.{filter, AllByRecursion}
use Rattle.std.specs.Option.{option_and_then, option_map}
use Rattle.std.proofs.lemmas.Bool.{cases_Bool, both_ways, cond-true, cond-false}
use Rattle.mps_base.specs.Effects.{Effect, Gives, Takes, Idle, effect}
use Rattle.mps_base.specs.declared.action.Step.{Step}
use Rattle.mps_history.specs.Steps.{sends, receives, given, messages_of, all_given, unreceived, IsIn}
use Rattle.mps_history.proofs.Order.{step_of_member}
use Rattle.mps_arena.specs.Keys.{is_at, has, AreDistinct}
use Rattle.mps_arena.specs.KeyedSteps.{KeyedStep, steps, keys_of, any_step, like, unlike, keyed_at, IsSmall, AreSound}
use Rattle.mps_arena.specs.Neighbours.{matched_with, source_in, first_waiting}
use Rattle.mps_arena.specs.Matched.{matched_source}
use Rattle.mps_arena.proofs.KeyLists.{get_in, matched_key_in}
use Rattle.mps_arena.proofs.Chains.{keys_without, absent, keyed_middle}
use Rattle.mps_arena.proofs.Histories.{count_steps}
use Rattle.mps_arena.proofs.Matched.{sends_pair}
use Rattle.mps_arena.proofs.Nodes.{cases_keyed}
use Rattle.mps_queues.specs.Fronts.{waiting_keys}
use Rattle.mps_queues.proofs.Moves.{get_drop_front, first_left}
use Rattle.mps_log.specs.Values.{message_in, given_by, message_of, message_sent}

-- a key of a chain is a keyed step's
pub has_keyed : (p : Step → Bool) (es : List KeyedStep) (k : ℕ) → has k (keys_of p es) ≡ true → IsSome (keyed_at k es)
has_keyed p es k h = grind (arith, both_ways, absent, cases_keyed)

module _ (es : List KeyedStep) (sound : AreSound es) (p q : ℕ) where
  -- the messages of a chain of sends are those of its keys, in order
  messages_at : (a b : List KeyedStep) → es ≡ a ++ b → (n : ℕ) → slice_get (all_given (filter (sends p q) (steps b))) n ≡ option_and_then (message_of es) (slice_get (keys_of (sends p q) b) n)
  messages_at a [] e n = refl
  messages_at a (y ∷ b) e n =
      let shifted = e ∙ sym (append_assoc a (y ∷ []) b) in
      ⊎_elim
      (λ (t : sends p q y.step ≡ true). rw t (with_message t (messages_at (a ++ y ∷ []) b shifted) n))
      (λ (f : sends p q y.step ≡ false). rw f (messages_at (a ++ y ∷ []) b shifted n))
      (cases_Bool (sends p q y.step))
    where
      found : keyed_at y.key es ≡ Some y
      found = subst (λ (l : List KeyedStep). keyed_at y.key l ≡ Some y) (sym e) (keyed_middle a b y (subst (λ (l : List KeyedStep). AreDistinct (keys_of any_step l)) e sound.distinct))

      with_message : sends p q y.step ≡ true → ((n : ℕ) → slice_get (all_given (filter (sends p q) (steps b))) n ≡ option_and_then (message_of es) (slice_get (keys_of (sends p q) b) n)) → (n : ℕ) → slice_get (given y.step.act ++ all_given (filter (sends p q) (steps b))) n ≡ option_and_then (message_of es) (slice_get (y.key ∷ keys_of (sends p q) b) n)
      with_message t rest zero =
          let w = sends_pair p q y.step t in
          ap (λ (c : Effect). slice_get (messages_of c ++ all_given (filter (sends p q) (steps b))) 0) w.2
          ∙ sym (ap (option_and_then (λ (x : KeyedStep). given_by x.step.act)) found ∙ ap message_in w.2)
      with_message t rest (suc n) = grind (arith, sends_pair)

  -- so what waits is what the waiting sends gave
  pub message_waits : (n : ℕ) → slice_get (unreceived p q (steps es)) n ≡ option_and_then (message_of es) (slice_get (waiting_keys es p q) n)
  message_waits n =
      let g = length (keys_of (receives p q) es) in
      cc (count_steps (receives p q) es, get_drop_front (all_given (filter (sends p q) (steps es))) g n (g + n) refl, messages_at [] es refl (g + n), get_drop_front (keys_of (sends p q) es) g n (g + n) refl)

  pub waiting_keyed : (n k : ℕ) → slice_get (waiting_keys es p q) n ≡ Some k → IsSome (keyed_at k es)
  waiting_keyed n k e =
      let g = length (keys_of (receives p q) es) in
      let c = keys_of (sends p q) es in
      let at : slice_get c (g + n) ≡ Some k = sym (get_drop_front c g n (g + n) refl) ∙ e in
      has_keyed (sends p q) es k (get_in c (g + n) k (ap (λ (o : Option ℕ). is_at o k) at ∙ eq-eqb k k refl))

  -- roles past the eighth have no chains
  pub no_stranger : (p < 8 → q < 8 → ⊥) → (b : List KeyedStep) → AllByRecursion (λ e. IsSmall e.step) b → keys_of (sends p q) b ≡ []
  no_stranger far [] small = refl
  no_stranger far (y ∷ b) small =
      ⊎_elim
      (grind (arith, sends_pair))
      (λ (f : sends p q y.step ≡ false). keys_without (sends p q) y b f ∙ no_stranger far b small.1)
      (cases_Bool (sends p q y.step))

  pub nothing_waits : (p < 8 → q < 8 → ⊥) → (n : ℕ) → slice_get (unreceived p q (steps es)) n ≡ None
  nothing_waits far n = grind (arith, message_waits, get_drop_front, no_stranger)

  -- the first message is what the first waiting send gave
  pub first_message : option_and_then (message_of es) (first_waiting es p q) ≡ slice_get (unreceived p q (steps es)) 0
  first_message = ap (option_and_then (message_of es)) (first_left es sound p q) ∙ sym (message_waits 0)

  pub first_keyed : (k : ℕ) → first_waiting es p q ≡ Some k → IsSome (keyed_at k es)
  first_keyed k e = waiting_keyed 0 k (sym (first_left es sound p q) ∙ e)

  -- where a message waits, there is a send that isn't received
  pub first_waits : IsSome (slice_get (unreceived p q (steps es)) 0) → IsSome (first_waiting es p q)
  first_waits h = grind (arith, first_left, message_waits)

-- the k-th step is that of the k-th key
pub steps_at : (es : List KeyedStep) → AreSound es → (a b : List KeyedStep) → es ≡ a ++ b → (n : ℕ) → slice_get (steps b) n ≡ option_and_then (λ k. option_map (λ (e : KeyedStep). e.step) (keyed_at k es)) (slice_get (keys_of any_step b) n)
steps_at es sound a [] e n = refl
steps_at es sound a (y ∷ b) e zero = grind (arith, keyed_middle)
steps_at es sound a (y ∷ b) e (suc n) = steps_at es sound (a ++ y ∷ []) b (e ∙ sym (append_assoc a (y ∷ []) b)) n

-- the send that a receipt is matched with is a keyed step's
pub source_keyed : (es : List KeyedStep) (k j : ℕ) → source_in es k ≡ Some j → IsSome (keyed_at j es)
source_keyed es k j e =
    ⊎_elim
    (λ (z : keyed_at k es ≡ None). let no : None ≡ Some j = sym (ap (option_and_then (λ (x : KeyedStep). matched_source (effect x.step.act) (matched_with es x))) z) ∙ e in absurd cc)
    (λ (w : (y : KeyedStep) × (keyed_at k es ≡ Some y)).
    of_act w.0 (effect w.0.step.act) (sym (ap (option_and_then (λ (x : KeyedStep). matched_source (effect x.step.act) (matched_with es x))) w.1) ∙ e))
    (cases_keyed (keyed_at k es))
  where
    of_act : (y : KeyedStep) (c : Effect) → matched_source c (matched_with es y) ≡ Some j → IsSome (keyed_at j es)
    of_act y (Gives to message) h = absurd cc
    of_act y (Takes from slot) h =
        let own = keys_of (like y.step.role (effect y.step.act)) es in
        let other = keys_of (unlike y.step.role (effect y.step.act)) es in
        has_keyed (unlike y.step.role (effect y.step.act)) es j (matched_key_in y.key j own other (ap (λ (o : Option ℕ). is_at o j) h ∙ eq-eqb j j refl))
    of_act y Idle h = absurd cc

-- a step is found by its number
keyed_is_in : (k : ℕ) (es : List KeyedStep) (y : KeyedStep) → keyed_at k es ≡ Some y → IsIn y.step (steps es)
keyed_is_in k [] y e = absurd cc
keyed_is_in k (x ∷ es) y e =
    ⊎_elim
    (grind (arith, cond-true))
    (λ (f : (x.key == k) ≡ false). inr (keyed_is_in k es y (sym (cond-false (x.key == k) (Some x) (keyed_at k es) f) ∙ e)))
    (cases_Bool (x.key == k))

-- so what the step of the number gave is what that of the key did
pub sent_at : (es : List KeyedStep) → AreSound es → (k : ℕ) (s : Step) → option_map (λ (e : KeyedStep). e.step) (keyed_at k es) ≡ Some s → (message_of es k ≡ given_by s.act) × (message_sent (steps es) s.id ≡ given_by s.act)
sent_at es sound k s e = grind (arith, step_of_member, keyed_is_in, cases_keyed)
