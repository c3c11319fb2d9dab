-- What the slots of a role are bound to is what the view keeps.
use Rattle.std.proofs.Common.{arith, ◌≡◌, ℕ, zero, suc, true, false, List, [], ◌∷◌, ◌++◌, length, Option, Some, None, refl, sym, ap, ◌∙◌, ⊎_elim, append_assoc, append-nil}
use Rattle.std.specs.Prelude.{⊤, slice_get}
use Rattle.std.specs.Option.{option_and_then, option_map}
use Rattle.std.specs.Str.{bytes_eq}
use Rattle.std.proofs.lemmas.Bool.{cases_Bool, ne_eqb}
use Rattle.std.proofs.lemmas.List.{map-append}
use Rattle.mps_base.specs.Effects.{effect}
use Rattle.mps_base.specs.declared.action.Act.{Act}
use Rattle.mps_base.specs.declared.action.Act.TheVariants.{Out, In, Mark, Commit}
use Rattle.mps_base.specs.declared.action.Message.{Message}
use Rattle.mps_base.specs.declared.action.Message.TheVariants.{Value as Plain}
use Rattle.mps_base.specs.declared.value.Value.{Value}
use Rattle.mps_history.specs.Slots.{bound, value_in}
use Rattle.mps_history.specs.Steps.{unreceived}
use Rattle.mps_local.specs.Local.{LocalType}
use Rattle.mps_machine.specs.View.{Store, Participant, View, opening}
use Rattle.mps_machine.specs.Rule.{first_of, moved, to_come_after, advanced, participant_after, store_after, rule, replay}
use Rattle.mps_machine.proofs.Stepping.{map_some, rule_parts, replay_parts, replay-append}
use Rattle.mps_machine.proofs.Peers.{fact_by_role}
use Rattle.mps_machine.proofs.Unreceived.{queue_is}
use Rattle.mps_arena.specs.KeyedSteps.{KeyedStep, steps, keyed_at, AreSound}
use Rattle.mps_arena.specs.Neighbours.{first_waiting}
use Rattle.mps_arena.proofs.Matched.{sound_left, last_fresh}
use Rattle.mps_stores.specs.Stores.{Keys, slot_of, bindings}
use Rattle.mps_stores.proofs.Bindings.{bindings_push, after_binding, after_other, after_idle}
use Rattle.mps_log.specs.Values.{value_of, message_of, value_taken, kept_in, kept_by}
use Rattle.mps_log.proofs.Waiting.{first_message}
use Rattle.mps_log.proofs.Taking.{value_stays, taken_new}

-- the same slots in the same order, each bound to the key of its value
abbrev AreBound : (ℕ → Option Value) → Store → Keys → Type 0
AreBound f [] [] = ⊤
AreBound f (s ∷ store) (b ∷ keys) = (s.0 ≡ b.0) × (f b.1 ≡ Some s.1) × AreBound f store keys
AreBound f store keys = ⊥

bound_both : (f : ℕ → Option Value) (store : Store) (keys : Keys) (slot : List ℕ) (v : Value) (k : ℕ) → AreBound f store keys → f k ≡ Some v → AreBound f (bound slot v store) (bound slot k keys)
bound_both f (s ∷ store) (b ∷ keys) slot v k h e =
    ⊎_elim
    (λ (t : bytes_eq b.0 slot ≡ true). let u : bytes_eq s.0 slot ≡ true = ap (λ (x : List ℕ). bytes_eq x slot) h.0 ∙ t in rw (t, u) (refl, e, h.2))
    (λ (n : bytes_eq b.0 slot ≡ false). let u : bytes_eq s.0 slot ≡ false = ap (λ (x : List ℕ). bytes_eq x slot) h.0 ∙ n in rw (n, u) (h.0, h.1, bound_both f store keys slot v k h.2 e))
    (cases_Bool (bytes_eq b.0 slot))
bound_both f other others slot v k h e = grind arith

value_both : (f : ℕ → Option Value) (store : Store) (keys : Keys) (slot : List ℕ) → AreBound f store keys → value_in slot store ≡ option_and_then f (value_in slot keys)
value_both f (s ∷ store) (b ∷ keys) slot h =
    ⊎_elim
    (λ (t : bytes_eq b.0 slot ≡ true). let u : bytes_eq s.0 slot ≡ true = ap (λ (x : List ℕ). bytes_eq x slot) h.0 ∙ t in rw (t, u) (sym h.1))
    (λ (n : bytes_eq b.0 slot ≡ false). let u : bytes_eq s.0 slot ≡ false = ap (λ (x : List ℕ). bytes_eq x slot) h.0 ∙ n in rw (n, u) (value_both f store keys slot h.2))
    (cases_Bool (bytes_eq b.0 slot))
value_both f other others slot h = grind arith

binding_both : (f : ℕ → Option Value) (store : Store) (keys : Keys) (k : ℕ) → AreBound f store keys → slice_get store k ≡ option_and_then (λ b. option_map (λ v. (b.0, v)) (f b.1)) (slice_get keys k)
binding_both f [] [] k h = refl
binding_both f (s ∷ store) (b ∷ keys) zero h = grind arith
binding_both f (s ∷ store) (b ∷ keys) (suc k) h = binding_both f store keys k h.2
binding_both f other others k h = absurd h

long_both : (f : ℕ → Option Value) (store : Store) (keys : Keys) → AreBound f store keys → length store ≡ length keys
long_both f [] [] h = refl
long_both f (s ∷ store) (b ∷ keys) h = ap suc (long_both f store keys h.2)
long_both f other others h = absurd h

bound_stays : (f g : ℕ → Option Value) (store : Store) (keys : Keys) → ((k : ℕ) (v : Value) → f k ≡ Some v → g k ≡ Some v) → AreBound f store keys → AreBound g store keys
bound_stays f g [] [] m h = tt
bound_stays f g (s ∷ store) (b ∷ keys) m h = (h.0, m b.1 s.1 h.1, bound_stays f g store keys m h.2)
bound_stays f g other others m h = absurd h

-- the store of an act's role after the act
store_then : (before after : Participant) (act : Act) (m : Option Message) → participant_after before act m ≡ Some after → after.store ≡ store_after before.store act m
store_then before after act m e = sym (ap (λ (x : Participant). x.store) (map_some (advanced before act m) (to_come_after before.to_come (effect act) m) after e).2)

took_value : (before after : Participant) (from : ℕ) (slot : List ℕ) (m : Option Message) → participant_after before (In from (Some slot)) m ≡ Some after → (v : Value) × (m ≡ Some (Plain v))
took_value before after from slot m e = grind arith

module _ (types : List LocalType) where
  -- the stores of the view are those of the keyed steps
  abbrev Bind : List KeyedStep → View → Type 0
  Bind es v = (p : ℕ) → AreBound (value_taken es) (v.participant p).store (bindings slot_of p es)

  module _ (es : List KeyedStep) (e : KeyedStep) (v w : View) (sound : AreSound es) (fresh : keyed_at e.key es ≡ None) (before : replay (opening types) (steps es) ≡ Some v) (next : rule v e.step ≡ Some w) (was : Bind es v) where
    abbrev now : List KeyedStep
    now = es ++ e ∷ []

    stays : (p : ℕ) → AreBound (value_taken now) (v.participant p).store (bindings slot_of p es)
    stays p = bound_stays (value_taken es) (value_taken now) (v.participant p).store (bindings slot_of p es) (value_stays es e sound fresh) (was p)

    -- of the role of the step
    own_store : (act : Act) → e.step.act ≡ act → (after : Participant) → participant_after (v.participant e.step.role) act (moved v e.step.role act) ≡ Some after → AreBound (value_taken now) (store_after (v.participant e.step.role).store act (moved v e.step.role act)) (bindings slot_of e.step.role now)
    own_store (Out to m) is after h =
        rw (bindings_push slot_of e.step.role es e, after_idle slot_of e.step.role (bindings slot_of e.step.role es) e (ap slot_of is)) (stays e.step.role)
    own_store (Mark name) is after h =
        rw (bindings_push slot_of e.step.role es e, after_idle slot_of e.step.role (bindings slot_of e.step.role es) e (ap slot_of is)) (stays e.step.role)
    own_store Commit is after h =
        rw (bindings_push slot_of e.step.role es e, after_idle slot_of e.step.role (bindings slot_of e.step.role es) e (ap slot_of is)) (stays e.step.role)
    own_store (In from None) is after h =
        rw (bindings_push slot_of e.step.role es e, after_idle slot_of e.step.role (bindings slot_of e.step.role es) e (ap slot_of is)) (stays e.step.role)
    own_store (In from (Some slot)) is after h =
        let r = e.step.role in
        let m = moved v r (In from (Some slot)) in
        let took = took_value (v.participant r) after from slot m h in
        let first : option_and_then (message_of es) (first_waiting es from r) ≡ Some (Plain took.0) =
        first_message es sound from r ∙ get_first (unreceived from r (steps es)) ∙ ap first_of (sym (queue_is (opening types) v (steps es) from r before)) ∙ took.1 in
        let taken : value_taken now e.key ≡ Some took.0 = ap (option_and_then value_of) (taken_new es e sound fresh from (Some slot) (Plain took.0) is first) in
        rw (bindings_push slot_of r es e, after_binding slot_of r slot (bindings slot_of r es) e (refl, ap slot_of is), took.1)
        (bound_both (value_taken now) (v.participant r).store (bindings slot_of r es) slot took.0 e.key (stays r) taken)
      where
        get_first : (queue : List Message) → slice_get queue 0 ≡ first_of queue
        get_first [] = refl
        get_first (x ∷ queue) = refl

    bind_step : Bind now w
    bind_step p = grind (arith, rule_parts, fact_by_role, store_then, own_store, bindings_push, after_other, ne_eqb, stays)

  bind_from : (a b : List KeyedStep) (v w : View) → AreSound (a ++ b) → replay (opening types) (steps a) ≡ Some v → replay v (steps b) ≡ Some w → Bind a v → Bind (a ++ b) w
  bind_from a [] v w sound before rest was = grind (arith, append-nil)
  bind_from a (e ∷ b) v w sound before rest was =
      let parts = replay_parts v w e.step (steps b) rest in
      let whole = append_assoc a (e ∷ []) b in
      let next : replay (opening types) (steps (a ++ e ∷ [])) ≡ Some parts.0 =
      cc (map-append (λ (x : KeyedStep). x.step) a (e ∷ []), replay-append (opening types) v (steps a) (e.step ∷ []) before) in
      rw (← whole)
      (bind_from (a ++ e ∷ []) b parts.0 w (rw whole sound) next parts.2
      (bind_step a e v parts.0 (sound_left a (e ∷ b) sound) (last_fresh a b e sound) before parts.1 was))

  -- what a role keeps in a slot is what the keyed steps say
  pub slot_is : (es : List KeyedStep) (v : View) (p : ℕ) (slot : List ℕ) → AreSound es → replay (opening types) (steps es) ≡ Some v → value_in slot (v.participant p).store ≡ kept_in es p slot
  slot_is es v p slot sound h =
      value_both (value_taken es) (v.participant p).store (bindings slot_of p es) slot (bind_from [] es (opening types) v sound refl h (λ q. tt) p)

  -- so it is with the slots of each place
  pub binding_is : (es : List KeyedStep) (v : View) (p k : ℕ) → AreSound es → replay (opening types) (steps es) ≡ Some v → slice_get (v.participant p).store k ≡ option_and_then (kept_by es) (slice_get (bindings slot_of p es) k)
  binding_is es v p k sound h =
      binding_both (value_taken es) (v.participant p).store (bindings slot_of p es) k (bind_from [] es (opening types) v sound refl h (λ q. tt) p)

  -- and with how many there are
  pub slots_are : (es : List KeyedStep) (v : View) (p : ℕ) → AreSound es → replay (opening types) (steps es) ≡ Some v → length (v.participant p).store ≡ length (bindings slot_of p es)
  slots_are es v p sound h =
      long_both (value_taken es) (v.participant p).store (bindings slot_of p es) (bind_from [] es (opening types) v sound refl h (λ q. tt) p)
