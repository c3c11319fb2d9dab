-- What a session answers, against the plain machine.
use Rattle.std.specs.Prelude.{◌≡◌, ℕ, ⊤, List, [], ◌∷◌, Option, None, Result, Ok, Err, IsSome, IfSome}
use Rattle.std.specs.Borrow.{Bor}
use Rattle.std.specs.Option.{option_and_then}
use Rattle.mps_base.specs.declared.action.Act.{Act}
use Rattle.mps_base.specs.declared.action.Message.{Message}
use Rattle.mps_base.specs.declared.action.Step.{Step}
use Rattle.mps_command.specs.declared.answer.Answer.{Answer}
use Rattle.mps_command.specs.declared.answer.Answer.TheVariants.{Done, Undone}
use Rattle.mps_command.specs.declared.answer.Refusal.{Refusal}
use Rattle.mps_command.specs.declared.command.Command.{Command}
use Rattle.mps_command.specs.declared.command.Command.TheVariants.{Forward, Undo, Rollback, Back}
pub use Rattle.mps_log.specs.Values.{given_by, message_sent}
use Rattle.mps_session.specs.declared.gist.Gist.{Gist}
use Rattle.mps_session.specs.declared.gist.Gist.TheVariants.{Stepped, Undid, TookBack}

-- the answer to an undo of the step of that number, as the machine gives it: the number alone is told
abbrev pub undo_answer : ℕ → Result ⊤ Refusal → Result (List ℕ) Refusal
undo_answer id (Ok done) = Ok (id ∷ [])
undo_answer id (Err refusal) = Err refusal

-- the result, without what is told besides
abbrev pub once : {A B : Type 0} → Result (A × B) Refusal → Result A Refusal
once (Ok told) = Ok told.0
once (Err refusal) = Err refusal

-- the message that was taken from the step of that number, if from any
abbrev pub taken_of : List Step → Option ℕ → Option Message
taken_of h source = option_and_then (message_sent h) source

-- the step of that number, if one is named, gave a message
abbrev pub IsSent : List Step → Option ℕ → Type 0
IsSent h source = IfSome source (λ n. IsSome (message_sent h n))

-- the step that a gist names as the one that sent what was taken
abbrev pub source_of : Gist → Option ℕ
source_of (Stepped id source) = source
source_of gist = None

-- an accepted command gets an answer of such a gist
abbrev pub IsGistFor : Command → Gist → Type 0
IsGistFor (Forward step) (Stepped id source) = ⊤
IsGistFor (Undo n) (Undid m) = m ≡ n
IsGistFor (Rollback n) (TookBack ids) = ⊤
IsGistFor (Back name) (TookBack ids) = ⊤
IsGistFor command gist = ⊥

-- the answer of which this is the gist, where these were the steps
abbrev pub answer_of : List Step → Gist → Answer
answer_of h (Stepped id source) = Done (record { id = id; got = taken_of h source })
answer_of h (Undid id) = Undone (id ∷ [])
answer_of h (TookBack ids) = Undone ids.items

-- a step, as it is shown
abbrev pub as_step : ℕ × ℕ × Bor Act → Step
as_step shown = record { id = shown.0; role = shown.1; act = shown.2.now }
