-- Numbered commands: a change that isn't refused is accepted.
use Rattle.std.proofs.Common.{arith, ◌≡◌, ℕ, true, List, Bool, false}
use Rattle.std.specs.Prelude.{IsSome}
use Rattle.mps_command.specs.Changes.{change_of}
use Rattle.mps_command.specs.declared.answer.Answer.{Answer}
use Rattle.mps_command.specs.declared.answer.Answer.TheVariants.{Done, Undone, Refused}
use Rattle.mps_command.specs.declared.answer.Refusal.{Refusal}
use Rattle.mps_command.specs.declared.command.Change.{Change}
use Rattle.mps_command.specs.declared.command.Command.{Command}
use Rattle.mps_local.specs.Local.{LocalType}
use Rattle.mps_machine.specs.Machine.{State, serve}
use Rattle.mps_machine.proofs.Answering.{from_ok}
use Rattle.mps_room.specs.Journal.{answer_to, is_accepted, MayAnswer}
use Rattle.mps_room.specs.declared.entry.Entry.{Entry}
use Rattle.mps_room.proofs.Growing.{asked}

-- the answer is of a change: a step, a list of steps taken back, or a refusal
abbrev pub is_told : Answer → Bool
is_told (Done done) = true
is_told (Undone ids) = true
is_told (Refused refusal) = true
is_told answer = false

pub told_change : (types : List LocalType) (st : State) (p : ℕ) (change : Change) → is_told (serve types st p change).0 ≡ true
told_change types st p change = grind arith

pub accepts_change : (names : List (List ℕ)) (types : List LocalType) (j : List Entry) (p : ℕ) (c : Command) (a : Answer) → IsSome (change_of c) → MayAnswer a (answer_to names types j p c) → ((refusal : Refusal) → a ≡ Refused refusal → ⊥) → is_accepted a ≡ true
accepts_change names types j p c a some says none = grind (arith, from_ok, asked)
