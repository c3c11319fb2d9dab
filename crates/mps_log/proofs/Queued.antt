-- A walk over the messages of a pair that wait.
use Rattle.std.proofs.Common.{◌≡◌, ℕ, zero, suc, ◌+◌, ◌<◌, ◌≤◌, false, List, [], ◌∷◌, length, drop, take, Option, Some, None, refl, sym, ap, ◌∙◌, subst, arith, ⊎_elim, eq-eqb, drop-cons}
use Rattle.std.specs.Prelude.{◌==◌, slice_get, IsSome}
use Rattle.std.specs.Option.{option_and_then}
use Rattle.std.proofs.lemmas.Bool.{cond-true, cond-false, eqb-true, false_from_ne_true, both_ways}
use Rattle.std.proofs.lemmas.List.{drop_all, take-append-drop}
use Rattle.std.proofs.lemmas.Option.{slice_get_cases, slice_get_past, slice_get_within, get_or_from_slice_get, none-some}
use Rattle.mps_base.specs.declared.action.Message.{Message}
use Rattle.mps_history.specs.Steps.{sends, receives, unreceived}
use Rattle.mps_arena.specs.Keys.{is_at, has, AreDistinct}
use Rattle.mps_arena.specs.KeyedSteps.{KeyedStep, steps, keys_of, keyed_at, AreSound}
use Rattle.mps_arena.specs.Neighbours.{next_send_in}
use Rattle.mps_arena.proofs.KeyLists.{get_in, AreDistinct-right}
use Rattle.mps_arena.proofs.Chains.{absent, passes, distinct}
use Rattle.mps_arena.proofs.Matched.{sends_pair}
use Rattle.mps_arena.proofs.Nodes.{cases_keyed}
use Rattle.mps_queues.specs.Fronts.{waiting_keys}
use Rattle.mps_queues.proofs.Moves.{get_drop_front, next_waiting}
use Rattle.mps_log.specs.Private.Queued.{place_of_key, left_of, IsQueue}
use Rattle.mps_log.specs.Values.{message_of}
use Rattle.mps_log.specs.declared.queue.Queue.TheInside.{Inside}
use Rattle.mps_log.proofs.Waiting.{message_waits, waiting_keyed}

-- where nothing stands, the list is over
pub over : {A : Type 0} (xs : List A) (n : ℕ) → slice_get xs n ≡ None → length xs ≤ n
over xs n e = ⊎_elim (λ w. absurd (none-some w.0 (sym e ∙ w.2))) (λ w. w.0) (slice_get_cases xs n).1

-- what is left from a place on
pub next_at : {A : Type 0} (xs : List A) (k : ℕ) (x : A) → slice_get xs k ≡ Some x → drop k xs ≡ x ∷ drop (suc k) xs
next_at xs k x at =
    let within : k < length xs = slice_get_within xs k x at in
    drop-cons xs k x within ∙ ap (λ y. y ∷ drop (suc k) xs) (get_or_from_slice_get xs k x x at)

place_at : (ks : List ℕ) (n k : ℕ) → AreDistinct ks → slice_get ks n ≡ Some k → place_of_key (Some k) ks ≡ n
place_at [] n k d e = absurd cc
place_at (j ∷ ks) zero k d e = let same : j ≡ k = cc in cond-true (j == k) 0 (suc (place_of_key (Some k) ks)) (eq-eqb j k same)
place_at (j ∷ ks) (suc n) k d e =
    let ne : (j == k) ≡ false = false_from_ne_true (j == k) (λ t. both_ways (has k ks) (subst (λ (m : ℕ). has m ks ≡ false) (eqb-true j k t) d.0) (get_in ks n k (ap (λ (o : Option ℕ). is_at o k) e ∙ eq-eqb k k refl))) in
    cond-false (j == k) 0 (suc (place_of_key (Some k) ks)) ne ∙ ap suc (place_at ks n k d.1 e)

module _ (es : List KeyedStep) (sound : AreSound es) (p q : ℕ) where
  abbrev keys : List ℕ
  keys = waiting_keys es p q

  abbrev queue : List Message
  queue = unreceived p q (steps es)

  distinct_keys : AreDistinct keys
  distinct_keys =
      let sent = keys_of (sends p q) es in
      let got = length (keys_of (receives p q) es) in
      AreDistinct-right (take got sent) (drop got sent) (subst AreDistinct (sym (take-append-drop got sent)) (distinct (sends p q) es sound.distinct))

  -- where no key waits, no message does
  queue_over : (n : ℕ) → slice_get keys n ≡ None → drop n queue ≡ []
  queue_over n e =
      drop_all n queue (over queue n (message_waits es sound p q n ∙ ap (option_and_then (message_of es)) e))

  -- what is left from the key of a place on is what is left from that place on
  pub left_from : (at : Option ℕ) (n : ℕ) → at ≡ slice_get keys n → drop (place_of_key at keys) queue ≡ drop n queue
  left_from at n e = grind (arith, queue_over, slice_get_past, place_at, distinct_keys)

  -- each send that waits gave a message
  pub gives : (n k : ℕ) → slice_get keys n ≡ Some k → (m : Message) × (message_of es k ≡ Some m)
  gives n k e =
      let sent = keys_of (sends p q) es in
      let got = length (keys_of (receives p q) es) in
      let place : slice_get sent (got + n) ≡ Some k = sym (get_drop_front sent got n (got + n) refl) ∙ e in
      let in_chain = get_in sent (got + n) k (ap (λ (o : Option ℕ). is_at o k) place ∙ eq-eqb k k refl) in
      grind (arith, both_ways, absent, sends_pair, passes, cases_keyed)

module _ (w : Inside) (walk : IsQueue w) where
  abbrev pub es_of : List KeyedStep
  es_of = w.arena.now.keyed_steps

  abbrev pub left : List Message
  left = drop walk.passed (unreceived w.from w.to (steps es_of))

  pub left_is : left_of w ≡ left
  left_is = left_from es_of walk.sound w.from w.to w.at walk.passed walk.at

  -- at the end nothing is left
  pub nothing_left : w.at ≡ None → left_of w ≡ []
  nothing_left e = left_is ∙ queue_over es_of walk.sound w.from w.to walk.passed (sym walk.at ∙ e)

  module _ (k : ℕ) (here : w.at ≡ Some k) where
    at_key : slice_get (waiting_keys es_of w.from w.to) walk.passed ≡ Some k
    at_key = sym walk.at ∙ here

    pub there : IsSome (keyed_at k es_of)
    there = waiting_keyed es_of walk.sound w.from w.to walk.passed k at_key

    -- the message of the send
    pub message : (m : Message) × (message_of es_of k ≡ Some m)
    message = gives es_of walk.sound w.from w.to walk.passed k at_key

    -- one further
    pub goes_on : (next : Option ℕ) → next ≡ next_send_in es_of k → IsQueue (record { arena = w.arena; from = w.from; to = w.to; at = next })
    goes_on next e = grind (arith, next_waiting es_of walk.sound w.from w.to walk.passed k at_key)

    -- what was left began with that message, and after it is what is left then
    pub shows : (m : Message) → message_of es_of k ≡ Some m → (next : Option ℕ) → next ≡ next_send_in es_of k → left_of w ≡ m ∷ left_of (record { arena = w.arena; from = w.from; to = w.to; at = next })
    shows m is next e =
        let all = unreceived w.from w.to (steps es_of) in
        let first : slice_get all walk.passed ≡ Some m = message_waits es_of walk.sound w.from w.to walk.passed ∙ ap (option_and_then (message_of es_of)) at_key ∙ is in
        left_is ∙ next_at all walk.passed m first
        ∙ ap (λ (l : List Message). m ∷ l) (sym (left_from es_of walk.sound w.from w.to next (suc walk.passed) (e ∙ next_waiting es_of walk.sound w.from w.to walk.passed k at_key)))
