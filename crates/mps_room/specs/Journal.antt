-- Journals: what a session accepted, each command with its role and its answer.
use Rattle.std.specs.Prelude.{◌≡◌, ℕ, ◌<◌, ◌≤◌, ⊤, Bool, true, false, ◌==◌, ◌&&◌, nat_lt, if◌then◌else◌, List, [], ◌∷◌}
use Rattle.std.specs.Prelude.{◌++◌, length, drop, Option, None, Some}
use Rattle.std.specs.List.{filter, flat_map, list_any}
use Rattle.std.specs.Option.{option_map_or}
use Rattle.mps_local.specs.Local.{LocalType}
use Rattle.mps_command.specs.Changes.{change_of}
use Rattle.mps_command.specs.declared.command.Change.TheVariants as changes
use Rattle.mps_command.specs.declared.command.Command.{Command}
use Rattle.mps_command.specs.declared.command.Command.TheVariants as commands
use Rattle.mps_command.specs.declared.answer.Answer.{Answer}
use Rattle.mps_command.specs.declared.answer.Answer.TheVariants.{Done, Undone, News, Shown, Refused}
use Rattle.mps_command.specs.declared.answer.Refusal.{Refusal}
use Rattle.mps_command.specs.declared.answer.Refusal.TheVariants.{Full}
use Rattle.mps_machine.specs.Answering.{IsAnswer, result_of}
use Rattle.mps_machine.specs.Machine.{State, initial, serve}
use Rattle.mps_show.specs.Shown.{show_text, stand_text}
use Rattle.mps_room.specs.declared.entry.Entry.{Entry}

-- how many entries a journal has at most
abbrev pub most_entries : ℕ
most_entries = 100000

-- the state after a command of role p: where it asks how things stand nothing changes
abbrev pub after_command : List LocalType → State → ℕ → Command → State
after_command types st p c = option_map_or (λ change. (serve types st p change).1) (change_of c) st

-- the state after the commands of a journal, from this state on
abbrev pub run_from : List LocalType → State → List Entry → State
run_from types st [] = st
run_from types st (e ∷ j) = run_from types (after_command types st e.role e.command) j

-- the state after the commands of a journal
abbrev pub run : List LocalType → List Entry → State
run types j = run_from types initial j

-- the numbers of the steps that an answer says were taken back
abbrev pub undone_by : Answer → List ℕ
undone_by (Undone ids) = ids
undone_by answer = []

-- whether the answer gives a step this number
abbrev pub gives : ℕ → Answer → Bool
gives n (Done done) = done.id == n
gives n answer = false

-- whether step n is role p's: an entry of p was answered with it
abbrev pub is_own : List Entry → ℕ → ℕ → Bool
is_own j p n = list_any (λ e. e.role == p && gives n e.answer) j

-- of the steps in a set, those that entries of other roles than p took back, in order
abbrev pub taken_back : (ℕ → Bool) → ℕ → List Entry → List ℕ
taken_back set p j = flat_map (λ e. if e.role == p then [] else filter set (undone_by e.answer)) j

-- the numbers of p's steps that other roles' entries after the first n took back, in order
abbrev pub news : List Entry → ℕ → ℕ → List ℕ
news j p n = taken_back (is_own j p) p (drop n j)

-- the answer after n entries: a refusal stays one, and else the journal has to have space for one entry more
abbrev pub limited : ℕ → Answer → Answer
limited n (Refused refusal) = Refused refusal
limited n answer = if nat_lt n most_entries then answer else Refused Full

-- the answer to role p's command after a journal, where the roles have these names and opening types
abbrev pub answer_to : (names : List (List ℕ)) → List LocalType → List Entry → ℕ → Command → Answer
answer_to names types j p (commands.Forward step) =
    limited (length j) (serve types (run types j) p (changes.Forward step)).0
answer_to names types j p (commands.Undo n) = limited (length j) (serve types (run types j) p (changes.Undo n)).0
answer_to names types j p (commands.Rollback n) =
    limited (length j) (serve types (run types j) p (changes.Rollback n)).0
answer_to names types j p (commands.Back name) = limited (length j) (serve types (run types j) p (changes.Back name)).0
answer_to names types j p (commands.News n) = News (length j) (news j p n)
answer_to names types j p commands.Show = Shown (show_text names types (run types j).history)
answer_to names types j p commands.Stand = Shown (stand_text names types (run types j).history p)

-- the refusal that an answer is, if it is one
abbrev pub refusal_of : Answer → Option Refusal
refusal_of (Refused refusal) = Some refusal
refusal_of answer = None

-- whether the answer accepts a change, which the journal then keeps
abbrev pub is_accepted : Answer → Bool
is_accepted (Done done) = true
is_accepted (Undone ids) = true
is_accepted answer = false

-- the journal after role p's command and its answer
abbrev pub grown : List Entry → ℕ → Command → Answer → List Entry
grown j p c answer = if is_accepted answer then j ++ record { role = p; command = c; answer = answer } ∷ [] else j

-- the entry is of an accepted change of one of the roles, with the answer that it gets after the entries before it
pub record IsEntryAfter (names : List (List ℕ)) (types : List LocalType) (before : List Entry) (e : Entry)
    : Type 0 where
  pub known : e.role < length types
  pub accepted : is_accepted e.answer ≡ true
  pub answer : e.answer ≡ answer_to names types before e.role e.command

-- each entry is, after those before it
abbrev pub FollowsOn : (names : List (List ℕ)) → List LocalType → (before j : List Entry) → Type 0
FollowsOn names types before [] = ⊤
FollowsOn names types before (e ∷ j) = IsEntryAfter names types before e × FollowsOn names types (before ++ e ∷ []) j

-- what holds of every journal
pub record IsLegal (names : List (List ℕ)) (types : List LocalType) (j : List Entry) : Type 0 where
  pub few : length j ≤ most_entries
  pub each : FollowsOn names types [] j

-- the answer is the one that is wanted, but memory may run out where that refuses nothing
abbrev pub MayAnswer : Answer → Answer → Type 0
MayAnswer answer wanted = IsAnswer (result_of answer) (result_of wanted)
