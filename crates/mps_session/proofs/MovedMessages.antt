-- The message that each step moved, by the keyed steps and by the replay.
use Rattle.std.proofs.Common.{◌≡◌, ℕ, ◌<◌, List, [], ◌∷◌, ◌++◌, length, Option, Some, refl, sym, ap, ◌∙◌, arith, append_assoc}
use mathlib.Core.Path.{ap₂}
use Rattle.std.specs.Prelude.{slice_get, unwrap_or}
use Rattle.std.specs.Option.{option_and_then, option_or}
use Rattle.std.proofs.lemmas.List.{map-append}
use Rattle.mps_base.specs.declared.action.Act.{Act}
use Rattle.mps_base.specs.declared.action.Act.TheVariants.{In}
use Rattle.mps_base.specs.declared.action.Message.{Message}
use Rattle.mps_base.specs.declared.action.Step.{Step}
use Rattle.mps_history.specs.Steps.{unreceived}
use Rattle.mps_local.specs.Local.{LocalType}
use Rattle.mps_machine.specs.View.{Participant, View, opening}
use Rattle.mps_machine.specs.Rule.{first_of, moved, participant_after, replay}
use Rattle.mps_machine.specs.Machine.{view_of}
use Rattle.mps_machine.proofs.Stepping.{rule_parts, replay_parts, replay-append, a_receipt_finds}
use Rattle.mps_machine.proofs.Unreceived.{queue_is}
use Rattle.mps_arena.specs.KeyedSteps.{KeyedStep, steps, AreSound}
use Rattle.mps_arena.specs.Neighbours.{first_waiting}
use Rattle.mps_arena.proofs.Chains.{keyed_middle}
use Rattle.mps_arena.proofs.Matched.{sound_left, last_fresh}
use Rattle.mps_log.specs.Shown.{Moved, moved_of, shown}
use Rattle.mps_log.specs.Values.{given_by, message_of, message_taken}
use Rattle.mps_log.proofs.Taking.{taken_stays, taken_new}
use Rattle.mps_log.proofs.Waiting.{first_message}
use Rattle.mps_log.proofs.Walks.{idle_has_none}
use Rattle.mps_session.specs.SessionState.{moved_from}

-- what a receipt took stays, whatever joins
taken_stays_all : (a b : List KeyedStep) (k : ℕ) (m : Message) → AreSound (a ++ b) → message_taken a k ≡ Some m → message_taken (a ++ b) k ≡ Some m
taken_stays_all a [] k m sound h = rw (append_nil_is a) h
  where
    append_nil_is : (l : List KeyedStep) → l ++ [] ≡ l
    append_nil_is [] = refl
    append_nil_is (x ∷ l) = ap (λ r. x ∷ r) (append_nil_is l)
taken_stays_all a (e ∷ b) k m sound h =
    let whole = append_assoc a (e ∷ []) b in
    rw (← whole)
    (taken_stays_all (a ++ e ∷ []) b k m (rw whole sound) (taken_stays a e (sound_left a (e ∷ b) sound) (last_fresh a b e sound) k m h))

first_is : (queue : List Message) → 0 < length queue → (m : Message) × (first_of queue ≡ Some m)
first_is [] h = absurd (omega arith)
first_is (m ∷ queue) h = (m, refl)

get_first : (queue : List Message) → slice_get queue 0 ≡ first_of queue
get_first queue = grind arith

module _ (types : List LocalType) where
  module _ (a b : List KeyedStep) (e : KeyedStep) (v : View) (c : Participant) (sound : AreSound (a ++ e ∷ b)) (before : replay (opening types) (steps a) ≡ Some v) where
    abbrev es : List KeyedStep
    es = a ++ e ∷ b

    abbrev r : ℕ
    r = e.step.role

    same_message : (act : Act) → e.step.act ≡ act → participant_after (v.participant r) act (moved v r act) ≡ Some c → option_or (given_by act) (message_taken es e.key) ≡ moved v r act
    same_message (In from slot) is h =
        let first = first_is (v.queue from r) (a_receipt_finds (v.participant r) c (v.queue from r) from slot h) in
        let waits : option_and_then (message_of a) (first_waiting a from r) ≡ Some first.0 =
        first_message a (sound_left a (e ∷ b) sound) from r ∙ get_first (unreceived from r (steps a)) ∙ ap first_of (sym (queue_is (opening types) v (steps a) from r before)) ∙ first.1 in
        let now = taken_new a e (sound_left a (e ∷ b) sound) (last_fresh a b e sound) from slot first.0 is waits in
        let whole = append_assoc a (e ∷ []) b in
        grind (arith, taken_stays_all)
    same_message other is h = grind (arith, idle_has_none, keyed_middle)

  moved_part : (es a b : List KeyedStep) (v w : View) → es ≡ a ++ b → AreSound es → replay (opening types) (steps a) ≡ Some v → replay v (steps b) ≡ Some w → shown es b ≡ moved_from types (steps a) (steps b)
  moved_part es a [] v w is sound before rest = refl
  moved_part es a (e ∷ b) v w is sound before rest =
      let parts = replay_parts v w e.step (steps b) rest in
      let ruled = rule_parts v parts.0 e.step parts.1 in
      let whole = append_assoc a (e ∷ []) b in
      let there : replay (opening types) (steps (a ++ e ∷ [])) ≡ Some parts.0 =
      cc (map-append (λ (x : KeyedStep). x.step) a (e ∷ []), replay-append (opening types) v (steps a) (e.step ∷ []) before) in
      let view : v ≡ view_of types (steps a) = sym (ap (λ (o : Option View). unwrap_or o (opening types)) before) in
      let one : moved_of es e ≡ moved (view_of types (steps a)) e.step.role e.step.act =
      grind (arith, same_message) in
      ap₂ (λ (o : Option Message) (l : List Moved). (e.step, o) ∷ l) one
      (moved_part es (a ++ e ∷ []) b parts.0 w (is ∙ sym whole) sound there parts.2
      ∙ ap (λ (h : List Step). moved_from types h (steps b)) (map-append (λ (x : KeyedStep). x.step) a (e ∷ [])))

-- each step moved what it moves where it is replayed
pub moved_is : (types : List LocalType) (es : List KeyedStep) (v : View) → AreSound es → replay (opening types) (steps es) ≡ Some v → shown es es ≡ moved_from types [] (steps es)
moved_is types es v sound h = moved_part types es [] es (opening types) v refl sound refl h
