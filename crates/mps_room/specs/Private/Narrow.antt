-- Narrow entries, as a journal keeps them: a receipt names the entry of its send in place of the message that it took.
use Rattle.std.specs.Prelude.{◌≡◌, ℕ, zero, suc, List, [], map, length, Option, Some, None, slice_get, IsSome, IfSome}
use Rattle.std.specs.List.{AllByRecursion}
use Rattle.std.specs.Option.{option_and_then, option_map_or}
use Rattle.mps_base.specs.declared.action.Message.{Message}
use Rattle.mps_base.specs.declared.action.Step.{Step}
use Rattle.mps_command.specs.Acts.{act_of}
use Rattle.mps_command.specs.declared.answer.Answer.{Answer}
use Rattle.mps_command.specs.declared.answer.Answer.TheVariants.{Done}
use Rattle.mps_command.specs.declared.command.Command.{Command}
use Rattle.mps_command.specs.declared.command.Command.TheVariants.{Forward}
use Rattle.mps_session.specs.Answers.{given_by}
use Rattle.mps_room.specs.Journal.{undone_by}
use Rattle.mps_room.specs.declared.entry.Entry.{Entry}

-- an entry whose answer has no message, and the place of the entry that gave the message, if there is one
pub record Narrow : Type 0 where
  pub entry : Entry
  pub source : Option ℕ

-- the message that a command gives
abbrev pub given_in : Command → Option Message
given_in (Forward step) = given_by (act_of step)
given_in command = None

-- the message that the entry at a place gave
abbrev pub message_at : List Narrow → ℕ → Option Message
message_at js k = option_and_then (λ s. given_in s.entry.command) (slice_get js k)

-- the message that an entry took
abbrev pub message_of : List Narrow → Narrow → Option Message
message_of js s = option_and_then (message_at js) s.source

-- the numbers of the steps that the entry at a place took back
abbrev pub taken_at : List Narrow → ℕ → List ℕ
taken_at js k = option_map_or (λ s. undone_by s.entry.answer) (slice_get js k) []

-- an answer with the message that was taken
abbrev pub with_message : Option Message → Answer → Answer
with_message got (Done done) = Done (record { id = done.id; got = got })
with_message got answer = answer

-- the entry itself
abbrev pub whole : List Narrow → Narrow → Entry
whole js s = record {
  role = s.entry.role;
  command = s.entry.command;
  answer = with_message (message_of js s) s.entry.answer;
}

-- the journal of these entries
abbrev pub journal_of : List Narrow → List Entry
journal_of js = map (whole js) js

-- the place of the entry of step n, by the places of the entries of all steps in the order of their numbers
abbrev pub place_of : (places : List ℕ) → ℕ → Option ℕ
place_of places zero = None
place_of places (suc k) = slice_get places k

-- the message that the entry of step n gave
abbrev pub given_at : (places : List ℕ) → List Narrow → ℕ → Option Message
given_at places js n = option_and_then (message_at js) (place_of places n)

-- where the step gave a message, its entry gave it
abbrev pub IsFound : (places : List ℕ) → List Narrow → Step → Type 0
IsFound places js s = (m : Message) → given_by s.act ≡ Some m → given_at places js s.id ≡ Some m

-- the entry that is named, if one is, gave a message
abbrev pub IsGiven : List Narrow → Option ℕ → Type 0
IsGiven js source = IfSome source (λ k. IsSome (message_at js k))

-- each step has a place, what each surviving step gave is found there, and each receipt names an entry that gave a
-- message
pub record AreFound (places owners : List ℕ) (h : List Step) (js : List Narrow) : Type 0 where
  pub count : length places ≡ length owners
  pub found : AllByRecursion (λ s. IsFound places js s) h
  pub sources : AllByRecursion (λ s. IsGiven js s.source) js
