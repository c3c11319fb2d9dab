-- What is accepted gets an answer of its own kind.
use Rattle.std.proofs.Common.{arith, ◌≡◌, ℕ, ◌<◌, ◌^◌, Bool, true, List, [], ◌∷◌, Option, Some, None}
use Rattle.std.specs.Prelude.{⊤}
use Rattle.std.specs.Option.{option_and_then}
use Rattle.mps_base.specs.declared.action.Message.{Message}
use Rattle.mps_base.specs.declared.action.Message.TheVariants.{Value as Plain, Label}
use Rattle.mps_base.specs.declared.action.Step.{Step as HistoryStep}
use Rattle.mps_command.specs.Acts.{act_of}
use Rattle.mps_command.specs.Changes.{command_of}
use Rattle.mps_command.specs.declared.answer.Answer.{Answer}
use Rattle.mps_command.specs.declared.answer.Answer.TheVariants.{Done as Stepped, Undone}
use Rattle.mps_command.specs.declared.answer.Done.{Done}
use Rattle.mps_command.specs.declared.answer.Violation.{Violation}
use Rattle.mps_command.specs.declared.command.Change.{Change}
use Rattle.mps_command.specs.declared.command.Change.TheVariants as changes
use Rattle.mps_command.specs.declared.command.Command.{Command}
use Rattle.mps_command.specs.declared.command.Command.TheVariants.{Forward}
use Rattle.mps_command.specs.declared.command.Command.TheVariants as commands
use Rattle.mps_command.specs.declared.command.Forward.{Forward as Step}
use Rattle.mps_command.specs.declared.command.Forward.TheVariants as steps
use Rattle.mps_local.specs.Local.{LocalType}
use Rattle.mps_machine.specs.Machine.{State, view_of, stepped, removed, undo, serve}
use Rattle.mps_machine.specs.Violations.{violation}
use Rattle.mps_room.specs.Journal.{is_accepted}
use Rattle.mps_room.specs.Private.Forms.{source_place, Fits}
use Rattle.mps_room.specs.Private.Narrow.{Narrow, message_at, IsGiven}
use Rattle.mps_session.specs.Answers.{answer_of, source_of, taken_of, IsGistFor}
use Rattle.mps_session.specs.declared.gist.Gist.{Gist}
use Rattle.mps_session.specs.declared.gist.Gist.TheVariants as gists
use Rattle.mps_room.proofs.Owning.{step_served, none_stepped, none_removed}

-- ---- messages

-- a step of this kind takes such a message
abbrev pub TakesMessage : Step → Option Message → Type 0
TakesMessage (steps.Receive from slot) (Some (Plain v)) = ⊤
TakesMessage (steps.Receive from slot) got = ⊥
TakesMessage (steps.Pick from) (Some (Label l)) = ⊤
TakesMessage (steps.Pick from) got = ⊥
TakesMessage step got = got ≡ None

-- the command gets such an answer where it is accepted, and the number of a new step is small
abbrev pub IsOfKind : Command → Answer → Type 0
IsOfKind (Forward step) (Stepped done) = TakesMessage step done.got × (done.id < 2 ^ 32)
IsOfKind (commands.Undo n) (Undone ids) = ids ≡ n ∷ []
IsOfKind (commands.Rollback n) (Undone ids) = ⊤
IsOfKind (commands.Back name) (Undone ids) = ⊤
IsOfKind command answer = ⊥

-- ---- answers

step_fits : (types : List LocalType) (st : State) (p : ℕ) (step : Step) (done : Done) (fault : Option Violation) (full : Bool) → violation (view_of types st.history) p (act_of step) ≡ fault → Stepped done ≡ stepped (step_served types st p (act_of step) done fault full).0 → st.next < 2 ^ 32 → IsOfKind (Forward step) (Stepped done)
step_fits types st p step done fault full is e few = grind arith

undo_fits : (st : State) (p n : ℕ) (ids : List ℕ) → Undone ids ≡ removed (undo st p n).0 → ids ≡ n ∷ []
undo_fits st p n ids e = grind arith

fits_change : (types : List LocalType) (st : State) (p : ℕ) (change : Change) (a : Answer) → a ≡ (serve types st p change).0 → is_accepted a ≡ true → st.next < 2 ^ 32 → IsOfKind (command_of change) a
fits_change types st p change a e kept few = grind (arith, step_fits, none_stepped, none_removed, undo_fits)

-- an answer that accepts is of the command's kind
pub fits_command : (types : List LocalType) (st : State) (p : ℕ) (change : Change) (command : Command) → command ≡ command_of change → (a : Answer) → a ≡ (serve types st p change).0 → is_accepted a ≡ true → st.next < 2 ^ 32 → IsOfKind command a
fits_command types st p change command asks a is kept few = grind (arith, fits_change)

-- ---- gists

-- where a message is taken an entry is named, and else none
module _ (js : List Narrow) where
  -- the gist of an answer of the command's kind is too
  pub fits_gist : (h : List HistoryStep) (places : List ℕ) (command : Command) (gist : Gist) → IsGistFor command gist → IsOfKind command (answer_of h gist)
      → IsGiven js (source_place places gist) → option_and_then (message_at js) (source_place places gist) ≡ taken_of h (source_of gist) → Fits command gist (source_place places gist)
  fits_gist h places command gist kind of given same = grind arith
