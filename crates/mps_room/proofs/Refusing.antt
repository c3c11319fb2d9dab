-- What a room refuses because its session does.
use Rattle.std.proofs.Common.{arith, ◌≡◌, ◌≢◌, ℕ, ◌<◌, ◌≤◌, true, List, Some, None, Err}
use Rattle.std.specs.Prelude.{length, IsSome}
use Rattle.std.proofs.lemmas.Bool.{cond-false, le-ltb}
use Rattle.mps_command.specs.Changes.{change_of}
use Rattle.mps_command.specs.declared.answer.Answer.{Answer}
use Rattle.mps_command.specs.declared.answer.Answer.TheVariants.{Refused}
use Rattle.mps_command.specs.declared.answer.Refusal.{Refusal}
use Rattle.mps_command.specs.declared.answer.Refusal.TheVariants.{Full, Memory}
use Rattle.mps_command.specs.declared.command.Change.{Change}
use Rattle.mps_command.specs.declared.command.Change.TheVariants as changes
use Rattle.mps_command.specs.declared.command.Command.{Command}
use Rattle.mps_command.specs.declared.command.Command.TheVariants.{Forward, Undo, Rollback, Back, News, Show, Stand}
use Rattle.mps_local.specs.Local.{LocalType}
use Rattle.mps_machine.specs.Faults.{fault, refusal_in}
use Rattle.mps_machine.specs.Answering.{IsChanged}
use Rattle.mps_machine.specs.Machine.{State, most_numbers, serve}
use Rattle.mps_machine.proofs.Answering.{never_memory, never_full}
use Rattle.mps_session.proofs.WhichRefusal.{same_refusal}
use Rattle.mps_room.specs.Journal.{most_entries, run, limited, answer_to, is_accepted, MayAnswer}
use Rattle.mps_room.specs.Private.Rooms.{IsLack}
use Rattle.mps_room.specs.declared.entry.Entry.{Entry}
use Rattle.mps_room.proofs.Growing.{room_for}
use Rattle.mps_room.proofs.Numbering.{is_told, told_change}

-- a refusal is no matter of room
limited_refusal : (n : ℕ) (a : Answer) (refusal : Refusal) → a ≢ Refused Memory → refusal_in a ≡ Some refusal → MayAnswer (Refused refusal) (limited n a)
limited_refusal n a refusal other e = grind (arith, same_refusal a refusal e)

pub refused : (names : List (List ℕ)) (types : List LocalType) (j : List Entry) (p : ℕ) (c : Command) (refusal : Refusal) → fault types (run types j) p c ≡ Some refusal → MayAnswer (Refused refusal) (answer_to names types j p c)
refused names types j p (Forward step) refusal e = limited_refusal (length j) _ refusal (never_memory types (run types j) p (changes.Forward step)) e
refused names types j p (Undo n) refusal e = grind (arith, same_refusal, never_memory)
refused names types j p (Rollback n) refusal e = grind (arith, same_refusal, never_memory)
refused names types j p (Back name) refusal e = grind (arith, same_refusal, never_memory)
refused names types j p other refusal e = absurd cc

-- what is in short supply is told where nothing else is refused: of memory only where there is room for an entry
module _ (n : ℕ) where
  lack_of : (a : Answer) (refusal : Refusal) → IsLack n refusal → (n < most_entries → a ≢ Refused Full) → refusal_in a ≡ None → is_told a ≡ true → MayAnswer (Refused refusal) (limited n a)
  lack_of a refusal short other e told = grind (arith, cond-false, le-ltb, room_for)

-- while there is room for an entry a number is left
pub lack_answer : (names : List (List ℕ)) (types : List LocalType) (j : List Entry) (p : ℕ) (c : Command) (refusal : Refusal) → IsSome (change_of c) → IsLack (length j) refusal → (length j < most_entries → (run types j).next ≤ most_numbers) → fault types (run types j) p c ≡ None → MayAnswer (Refused refusal) (answer_to names types j p c)
lack_answer names types j p c refusal change short left none = by_command c change none
  where
    st : State
    st = run types j

    of : (asked : Change) → refusal_in (serve types st p asked).0 ≡ None → MayAnswer (Refused refusal) (limited (length j) (serve types st p asked).0)
    of asked e = lack_of (length j) (serve types st p asked).0 refusal short (λ room. never_full types st p asked (left room)) e (told_change types st p asked)

    by_command : (c : Command) → IsSome (change_of c) → fault types st p c ≡ None → MayAnswer (Refused refusal) (answer_to names types j p c)
    by_command (Forward step) change e = of (changes.Forward step) e
    by_command (Undo n) change e = of (changes.Undo n) e
    by_command (Rollback n) change e = of (changes.Rollback n) e
    by_command (Back name) change e = of (changes.Back name) e
    by_command (News n) change e = absurd cc
    by_command Show change e = absurd cc
    by_command Stand change e = absurd cc

-- what a session refuses, a room does
pub refused_too : (types : List LocalType) (st new : State) (p n : ℕ) (change : Change) (refusal : Refusal) → n < most_entries → IsChanged types p change (Err refusal) st new → MayAnswer (Refused refusal) (limited n (serve types st p change).0)
refused_too types st new p n change refusal room h = grind (arith, room_for, told_change)

-- an answer that accepts is a answer_to to what wants it
pub accepted_answer : (a : Answer) → is_accepted a ≡ true → MayAnswer a a
accepted_answer a kept = grind arith
