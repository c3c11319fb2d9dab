-- Journals that grow by an entry.
use Rattle.std.proofs.Common.{◌≡◌, ℕ, ◌<◌, true, List, [], ◌∷◌, ◌++◌, Some, length, refl, sym, subst, arith, append_assoc, append-nil, length-append}
use Rattle.std.specs.Prelude.{IsSome}
use Rattle.std.proofs.lemmas.Bool.{cond-true, lt-ltb}
use Rattle.mps_command.specs.Changes.{change_of, command_of}
use Rattle.mps_command.specs.declared.command.Command.{Command}
use Rattle.mps_command.specs.declared.command.Command.TheVariants as commands
use Rattle.mps_command.specs.declared.answer.Answer.{Answer}
use Rattle.mps_command.specs.declared.command.Change.{Change}
use Rattle.mps_command.specs.declared.command.Change.TheVariants as changes
use Rattle.mps_local.specs.Local.{LocalType}
use Rattle.mps_machine.specs.Machine.{State, serve}
use Rattle.mps_room.specs.Journal.{most_entries, after_command, run_from, run, limited, answer_to, is_accepted, IsEntryAfter, FollowsOn, IsLegal}
use Rattle.mps_room.specs.declared.entry.Entry.{Entry}

-- the state after one more entry
run-joined : (types : List LocalType) (st : State) (j : List Entry) (e : Entry) → run_from types st (j ++ e ∷ []) ≡ after_command types (run_from types st j) e.role e.command
run-joined types st [] e = refl
run-joined types st (f ∷ j) e = run-joined types (after_command types st f.role f.command) j e

-- one more entry follows on
follows-joined : (names : List (List ℕ)) (types : List LocalType) (before j : List Entry) (e : Entry) → FollowsOn names types before j → IsEntryAfter names types (before ++ j) e → FollowsOn names types before (j ++ e ∷ [])
follows-joined names types before [] e all one = (subst (λ (l : List Entry). IsEntryAfter names types l e) (append-nil before) one, tt)
follows-joined names types before (f ∷ j) e all one =
    (all.0, follows-joined names types (before ++ f ∷ []) j e all.1 (subst (λ (l : List Entry). IsEntryAfter names types l e) (sym (append_assoc before (f ∷ []) j)) one))

-- what is accepted isn't limited where there is room
pub room_for : (n : ℕ) (a : Answer) → is_accepted a ≡ true → n < most_entries → limited n a ≡ a
room_for n a kept room = grind (arith, cond-true, lt-ltb)

pub answer_to_change : (names : List (List ℕ)) (types : List LocalType) (j : List Entry) (p : ℕ) (change : Change) → answer_to names types j p (command_of change) ≡ limited (length j) (serve types (run types j) p change).0
answer_to_change names types j p change = grind arith

-- a command that asks for a change is told by it
pub asked : (command : Command) → IsSome (change_of command) → (change : Change) × (change_of command ≡ Some change) × (command ≡ command_of change)
asked command h = grind arith

module _ (names : List (List ℕ)) (types : List LocalType) (j : List Entry) (p : ℕ) (change : Change) (a : Answer) (is : a ≡ (serve types (run types j) p change).0) where
  abbrev pub entry : Entry
  entry = record { role = p; command = command_of change; answer = a }

  pub legal_with : p < length types → IsLegal names types j → length j < most_entries → is_accepted a ≡ true → IsLegal names types (j ++ entry ∷ [])
  legal_with known legal room kept = grind (arith, room_for, answer_to_change, length-append, follows-joined)

  pub state_with : (st : State) → st ≡ (serve types (run types j) p change).1 → st ≡ run types (j ++ entry ∷ [])
  state_with st e = grind (arith, run-joined)
