-- The forms in which entries are kept.
use Rattle.std.specs.Prelude.{◌≡◌, ℕ, ◌+◌, ◌*◌, ◌<◌, ◌≤◌, ◌^◌, ⊤, List, [], ◌∷◌, length, take, drop, slice_index_or}
use Rattle.std.specs.Prelude.{Bool, Option, Some, None, IsSome}
use Rattle.std.specs.List.{AllByRecursion}
use Rattle.std.specs.Option.{option_and_then}
use Rattle.mps_base.specs.Names.{IsName}
use Rattle.mps_base.specs.Texts.{IsText}
use Rattle.mps_base.specs.declared.action.Message.{Message}
use Rattle.mps_base.specs.declared.value.Value.TheVariants.{Int, Bool as Truth, Text}
use Rattle.mps_command.specs.declared.answer.Answer.{Answer}
use Rattle.mps_command.specs.declared.answer.Answer.TheVariants as answers
use Rattle.mps_command.specs.declared.command.Command.{Command}
use Rattle.mps_command.specs.declared.command.Command.TheVariants as commands
use Rattle.mps_command.specs.declared.command.Forward.{Forward}
use Rattle.mps_command.specs.declared.command.Forward.TheVariants as steps
use Rattle.mps_session.specs.Answers.{source_of}
use Rattle.mps_session.specs.declared.gist.Gist.{Gist}
use Rattle.mps_session.specs.declared.gist.Gist.TheVariants.{Stepped, Undid, TookBack}
use Rattle.mps_room.specs.Private.Narrow.{Narrow, place_of}
use Rattle.mps_room.specs.declared.form.Form.{Form}
use Rattle.mps_room.specs.declared.form.Form.TheVariants.{Sent, Told, Wrote, Chose, Received, Picked, Marked, Committed}
use Rattle.mps_room.specs.declared.form.Form.TheVariants.{Undone, RolledBack, WentBack}

-- the bytes of a name or a text, among those of all
abbrev pub cut : List ℕ → (start size : ℕ) → List ℕ
cut words start size = take size (drop start words)

-- whose entry it is
abbrev pub role_in : Form → ℕ
role_in (Sent pair id number) = pair.role
role_in (Told pair truth id) = pair.role
role_in (Wrote pair id start size) = pair.role
role_in (Chose pair size id start) = pair.role
role_in (Received pair size id place start) = pair.role
role_in (Picked pair id place) = pair.role
role_in (Marked role size id start) = role
role_in (Committed role id) = role
role_in (Undone role id) = role
role_in (RolledBack role list id) = role
role_in (WentBack role size start list) = role

-- what was asked for, where these are the bytes of all names and texts
abbrev pub command_in : (words : List ℕ) → Form → Command
command_in words (Sent pair id number) = commands.Forward (steps.Send pair.peer (Int number))
command_in words (Told pair truth id) = commands.Forward (steps.Send pair.peer (Truth truth))
command_in words (Wrote pair id start size) = commands.Forward (steps.Send pair.peer (Text (cut words start size)))
command_in words (Chose pair size id start) = commands.Forward (steps.Choose pair.peer (cut words start size))
command_in words (Received pair size id place start) =
    commands.Forward (steps.Receive pair.peer (cut words start size))
command_in words (Picked pair id place) = commands.Forward (steps.Pick pair.peer)
command_in words (Marked role size id start) = commands.Forward (steps.Mark (cut words start size))
command_in words (Committed role id) = commands.Forward steps.Commit
command_in words (Undone role id) = commands.Undo id
command_in words (RolledBack role list id) = commands.Rollback id
command_in words (WentBack role size start list) = commands.Back (cut words start size)

-- a new step, and the message that it took
abbrev pub step_done : ℕ → Option Message → Answer
step_done id got = answers.Done (record { id = id; got = got })

-- how it was answered, without the message that it took, where these are the lists of what was taken back
abbrev pub answer_in : (lists : List (List ℕ)) → Form → Answer
answer_in lists (Sent pair id number) = step_done id None
answer_in lists (Told pair truth id) = step_done id None
answer_in lists (Wrote pair id start size) = step_done id None
answer_in lists (Chose pair size id start) = step_done id None
answer_in lists (Received pair size id place start) = step_done id None
answer_in lists (Picked pair id place) = step_done id None
answer_in lists (Marked role size id start) = step_done id None
answer_in lists (Committed role id) = step_done id None
answer_in lists (Undone role id) = answers.Undone (id ∷ [])
answer_in lists (RolledBack role list id) = answers.Undone (slice_index_or lists list [])
answer_in lists (WentBack role size start list) = answers.Undone (slice_index_or lists list [])

-- the place of the entry that gave the message
abbrev pub source_in : Form → Option ℕ
source_in (Received pair size id place start) = Some place
source_in (Picked pair id place) = Some place
source_in form = None

-- the narrow entry
abbrev pub narrow_in : (words : List ℕ) → (lists : List (List ℕ)) → Form → Narrow
narrow_in words lists form = record {
  entry = record { role = role_in form; command = command_in words form; answer = answer_in lists form };
  source = source_in form;
}

-- its name, or its text, is there
abbrev pub HasWord : (words : List ℕ) → Form → Type 0
HasWord words (Wrote pair id start size) = (start + size ≤ length words) × IsText (cut words start size)
HasWord words (Chose pair size id start) = (start + size ≤ length words) × IsName (cut words start size)
HasWord words (Received pair size id place start) = (start + size ≤ length words) × IsName (cut words start size)
HasWord words (Marked role size id start) = (start + size ≤ length words) × IsName (cut words start size)
HasWord words (WentBack role size start list) = (start + size ≤ length words) × IsName (cut words start size)
HasWord words form = ⊤

-- its list, of so many, is there
abbrev pub HasList : (count : ℕ) → Form → Type 0
HasList count (RolledBack role list id) = list < count
HasList count (WentBack role size start list) = list < count
HasList count form = ⊤

-- how a journal is kept: its entries' words and lists are there, and are few
pub record AreForms (forms : List Form) (words : List ℕ) (lists : List (List ℕ)) : Type 0 where
  pub words_there : AllByRecursion (HasWord words) forms
  pub lists_there : AllByRecursion (HasList (length lists)) forms
  pub few_words : length words ≤ 256 * length forms
  pub few_lists : length lists ≤ length forms

-- a journal as it is kept: its entries, and whether there is memory for one entry more, and for one list more
pub record Kept : Type 0 where
  pub entries : List Narrow
  pub has_space : Bool
  pub has_list_space : Bool

-- the name or the text of a step
abbrev pub word_in : Forward → List ℕ
word_in (steps.Send to (Text text)) = text
word_in (steps.Choose to label) = label
word_in (steps.Receive from slot) = slot
word_in (steps.Mark name) = name
word_in step = []

-- the name or the text of a command
abbrev pub word_of : Command → List ℕ
word_of (commands.Forward step) = word_in step
word_of (commands.Back name) = name
word_of command = []

-- the list of what was taken back by a rollback or a return
abbrev pub lists_of : Gist → List (List ℕ)
lists_of (TookBack ids) = ids.items ∷ []
lists_of gist = []

-- the narrow answer of this gist, which is without the message that was taken
abbrev pub narrow_answer : Gist → Answer
narrow_answer (Stepped id source) = step_done id None
narrow_answer (Undid id) = answers.Undone (id ∷ [])
narrow_answer (TookBack ids) = answers.Undone ids.items

-- the place of the entry that gave the message that was taken, if one was
abbrev pub source_place : (places : List ℕ) → Gist → Option ℕ
source_place places gist = option_and_then (place_of places) (source_of gist)

-- the narrow entry of role p's command, by the gist of its answer and the place of the entry that gave the message
abbrev pub narrow : ℕ → Command → Gist → Option ℕ → Narrow
narrow p command gist place = record {
  entry = record { role = p; command = command; answer = narrow_answer gist };
  source = place;
}

-- a step of this kind takes a message, or none
abbrev pub TakesSuch : Forward → Option ℕ → Type 0
TakesSuch (steps.Receive from slot) place = IsSome place
TakesSuch (steps.Pick from) place = IsSome place
TakesSuch step place = place ≡ None

-- what `IsGistFor` says of a command and its gist, in which the number of a new step is small; a place is named just
-- where a message is taken
abbrev pub Fits : Command → Gist → Option ℕ → Type 0
Fits (commands.Forward step) (Stepped id source) place = TakesSuch step place × (id < 2 ^ 32)
Fits (commands.Undo n) (Undid m) place = (m ≡ n) × (place ≡ None)
Fits (commands.Rollback n) (TookBack ids) place = place ≡ None
Fits (commands.Back name) (TookBack ids) place = place ≡ None
Fits command gist place = ⊥
