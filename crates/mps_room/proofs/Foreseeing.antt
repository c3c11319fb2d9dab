-- What a room refuses, as it is foreseen.
use Rattle.std.proofs.Common.{arith, ◌≡◌, ◌≢◌, ℕ, ◌<◌, ◌≤◌, List, Some, None, refl, ap}
use Rattle.std.specs.Prelude.{length, IsSome}
use Rattle.std.proofs.lemmas.Bool.{cond-false, cond-true, le-ltb, lt-ltb}
use Rattle.mps_command.specs.Changes.{change_of}
use Rattle.mps_command.specs.declared.answer.Answer.{Answer}
use Rattle.mps_command.specs.declared.answer.Answer.TheVariants.{Refused}
use Rattle.mps_command.specs.declared.answer.Refusal.{Refusal}
use Rattle.mps_command.specs.declared.answer.Refusal.TheVariants.{Full}
use Rattle.mps_command.specs.declared.command.Change.TheVariants as changes
use Rattle.mps_command.specs.declared.command.Command.{Command}
use Rattle.mps_command.specs.declared.command.Command.TheVariants.{Forward, Undo, Rollback, Back, News, Show, Stand}
use Rattle.mps_local.specs.Local.{LocalType}
use Rattle.mps_machine.specs.Faults.{fault, refusal_in}
use Rattle.mps_machine.specs.Machine.{most_numbers}
use Rattle.mps_machine.proofs.Answering.{never_full}
use Rattle.mps_session.proofs.WhichRefusal.{same_refusal}
use Rattle.mps_room.specs.Journal.{most_entries, run, limited, answer_to, refusal_of}
use Rattle.mps_room.specs.declared.entry.Entry.{Entry}

-- of an answer
limited_to : (n : ℕ) (a : Answer) (refusal : Refusal) → refusal_in a ≡ Some refusal → refusal_of (limited n a) ≡ Some refusal
limited_to n a refusal e = ap (λ (b : Answer). refusal_of (limited n b)) (same_refusal a refusal e)

full_of : (n : ℕ) (a : Answer) → most_entries ≤ n → refusal_in a ≡ None → refusal_of (limited n a) ≡ Some Full
full_of n a most e = grind (arith, cond-false, le-ltb)

taken_of : (n : ℕ) (a : Answer) → n < most_entries → a ≢ Refused Full → refusal_in a ≡ None → refusal_of (limited n a) ≡ None
taken_of n a room other e = grind (arith, cond-true, lt-ltb)

module _ (names : List (List ℕ)) (types : List LocalType) (j : List Entry) (p : ℕ) where
  -- what the session refuses
  pub foreseen : (c : Command) (refusal : Refusal) → fault types (run types j) p c ≡ Some refusal → refusal_of (answer_to names types j p c) ≡ Some refusal
  foreseen (Forward step) refusal e = limited_to (length j) _ refusal e
  foreseen (Undo n) refusal e = limited_to (length j) _ refusal e
  foreseen (Rollback n) refusal e = limited_to (length j) _ refusal e
  foreseen (Back name) refusal e = limited_to (length j) _ refusal e
  foreseen other refusal e = absurd cc

  -- a change that it accepts, without space for an entry
  pub foreseen_full : (c : Command) → IsSome (change_of c) → most_entries ≤ length j → fault types (run types j) p c ≡ None → refusal_of (answer_to names types j p c) ≡ Some Full
  foreseen_full (Forward step) change most e = full_of (length j) _ most e
  foreseen_full (Undo n) change most e = full_of (length j) _ most e
  foreseen_full (Rollback n) change most e = full_of (length j) _ most e
  foreseen_full (Back name) change most e = full_of (length j) _ most e
  foreseen_full (News n) change most e = absurd cc
  foreseen_full Show change most e = absurd cc
  foreseen_full Stand change most e = absurd cc

  -- and with space
  pub foreseen_taken : (c : Command) → length j < most_entries → (run types j).next ≤ most_numbers → fault types (run types j) p c ≡ None → refusal_of (answer_to names types j p c) ≡ None
  foreseen_taken (Forward step) room left e = taken_of (length j) _ room (never_full types (run types j) p (changes.Forward step) left) e
  foreseen_taken (Undo n) room left e = taken_of (length j) _ room (never_full types (run types j) p (changes.Undo n) left) e
  foreseen_taken (Rollback n) room left e = taken_of (length j) _ room (never_full types (run types j) p (changes.Rollback n) left) e
  foreseen_taken (Back name) room left e = taken_of (length j) _ room (never_full types (run types j) p (changes.Back name) left) e
  foreseen_taken (News n) room left e = refl
  foreseen_taken Show room left e = refl
  foreseen_taken Stand room left e = refl

  -- a question
  pub foreseen_asked : (c : Command) → (IsSome (change_of c) → ⊥) → refusal_of (answer_to names types j p c) ≡ None
  foreseen_asked (Forward step) none = absurd (none refl)
  foreseen_asked (Undo n) none = absurd (none refl)
  foreseen_asked (Rollback n) none = absurd (none refl)
  foreseen_asked (Back name) none = absurd (none refl)
  foreseen_asked (News n) none = refl
  foreseen_asked Show none = refl
  foreseen_asked Stand none = refl
