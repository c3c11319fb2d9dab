-- What receipts took, where one more step joins.
use Rattle.std.proofs.Common.{arith, ◌≡◌, ℕ, List, [], ◌∷◌, ◌++◌, Option, Some, None, eq-eqb}
use Rattle.std.specs.Option.{option_and_then}
use Rattle.std.proofs.lemmas.Bool.{cases_Bool, cond-false}
use Rattle.mps_base.specs.declared.action.Act.TheVariants.{In}
use Rattle.mps_base.specs.declared.action.Message.{Message}
use Rattle.mps_base.specs.declared.value.Value.{Value}
use Rattle.mps_arena.specs.KeyedSteps.{KeyedStep, keyed_at, AreSound}
use Rattle.mps_arena.specs.Neighbours.{first_waiting}
use Rattle.mps_arena.proofs.KeyLists.{get_in, matched_key_waits}
use Rattle.mps_arena.proofs.Chains.{distinct, passes, keyed_key, keyed_push}
use Rattle.mps_arena.proofs.Matched.{own, other, across, matched_with_push, matched_with_new, new_match}
use Rattle.mps_arena.proofs.Nodes.{cases_keyed}
use Rattle.mps_log.specs.Values.{message_of, message_taken, value_taken}

-- what a look-up leads on to stays where each of its values does
pub and_then_stays : {A B : Type 0} (f g : A → Option B) (o : Option A) (y : B) → ((x : A) (z : B) → f x ≡ Some z → g x ≡ Some z) → option_and_then f o ≡ Some y → option_and_then g o ≡ Some y
and_then_stays f g None y h e = absurd cc
and_then_stays f g (Some x) y h e = h x y e

module _ (es : List KeyedStep) (e : KeyedStep) (sound : AreSound es) (fresh : keyed_at e.key es ≡ None) where
  abbrev more : List KeyedStep
  more = es ++ e ∷ []

  pub message_stays : (k : ℕ) (m : Message) → message_of es k ≡ Some m → message_of more k ≡ Some m
  message_stays k m h = grind (arith, keyed_push, cases_keyed)

  pub taken_stays : (k : ℕ) (m : Message) → message_taken es k ≡ Some m → message_taken more k ≡ Some m
  taken_stays k m h = grind (arith, keyed_key, keyed_push, cases_keyed, own, other, matched_with_push, new_match, passes, get_in, across, matched_key_waits, distinct, cond-false, cases_Bool)

  -- what a receipt took stays what it took
  pub value_stays : (k : ℕ) (v : Value) → value_taken es k ≡ Some v → value_taken more k ≡ Some v
  value_stays k v h = grind (arith, taken_stays)

  -- a new receipt takes the first message that waits
  pub taken_new : (from : ℕ) (slot : Option (List ℕ)) (m : Message) → e.step.act ≡ In from slot → option_and_then (message_of es) (first_waiting es from e.step.role) ≡ Some m → message_taken more e.key ≡ Some m
  taken_new from slot m act h = grind (arith, keyed_push, eq-eqb, matched_with_new, new_match, and_then_stays, message_stays)
