-- The plain machine: a list of steps and the next number, and its answers to commands. An undo is allowed only where
-- nothing that depends on the step survives (Danos, Krivine, CONCUR 2004). A commit is never undone.
use Rattle.std.specs.Prelude.{◌≡◌, ℕ, ◌+◌, ◌<◌, Bool, false, ◌==◌, nat_lt, if◌then◌else◌, List, [], ◌∷◌, ◌++◌, reverse}
use Rattle.std.specs.Prelude.{Option, Some, None, is_some, unwrap_or, Result, Ok, Err}
use Rattle.std.specs.List.{AllByRecursion}
use Rattle.std.specs.Option.{option_map}
use Rattle.std.specs.Str.{bytes_eq}
use Rattle.mps_base.specs.Effects.{Effect, Takes, effect}
use Rattle.mps_base.specs.declared.action.Act.{Act}
use Rattle.mps_base.specs.declared.action.Act.TheVariants.{Mark}
use Rattle.mps_base.specs.declared.action.Message.{Message}
use Rattle.mps_base.specs.declared.action.Step.{Step}
use Rattle.mps_local.specs.Local.{LocalType}
use Rattle.mps_history.specs.Steps.{numbers, step_of, steps_of, within, without, IsRising}
use Rattle.mps_history.specs.Dependence.{consequences, dependents, least}
use Rattle.mps_history.specs.Commits.{is_commit, commits_from}
use Rattle.mps_command.specs.Acts.{act_of}
use Rattle.mps_command.specs.declared.command.Change.{Change}
use Rattle.mps_command.specs.declared.command.Change.TheVariants.{Forward, Undo, Rollback, Back}
use Rattle.mps_command.specs.declared.answer.Refusal.{Refusal}
use Rattle.mps_command.specs.declared.answer.Refusal.TheVariants.{Violation as Violates, NoStep, NotYours, Final}
use Rattle.mps_command.specs.declared.answer.Refusal.TheVariants.{Needed, NoMark, Full}
use Rattle.mps_command.specs.declared.answer.Done.{Done}
use Rattle.mps_command.specs.declared.answer.Answer.{Answer}
use Rattle.mps_command.specs.declared.answer.Answer.TheVariants.{Done as Stepped, Undone, Refused}
use Rattle.mps_machine.specs.View.{View, opening}
use Rattle.mps_machine.specs.Rule.{moved, replay}
use Rattle.mps_machine.specs.Violations.{violation}

-- the steps that survive, the oldest first, and the number that the next step will have
pub record State : Type 0 where
  pub history : List Step
  pub next : ℕ

-- the state of a new session
abbrev pub initial : State
initial = record { history = []; next = 1 }

-- how many numbers a session gives out
abbrev pub most_numbers : ℕ
most_numbers = 100000

-- what replaying the surviving steps gives, from the opening with these types
abbrev pub view_of : List LocalType → List Step → View
view_of types h = unwrap_or (replay (opening types) h) (opening types)

-- the message that an effect took, where it takes one
abbrev pub taken_by_effect : Effect → Option Message → Option Message
taken_by_effect (Takes from slot) m = m
taken_by_effect effect m = None

-- the message that a receipt or a pick took
abbrev pub taken : Act → Option Message → Option Message
taken act m = taken_by_effect (effect act) m

-- the step joins the end of the history with the next number
abbrev pub accepted : State → ℕ → Act → State
accepted st p act = record {
  history = st.history
      ++ record { id = st.next; role = p; act = act } ∷ [];
  next = st.next + 1;
}

-- a refusal that stands in the way, and then nothing changes, or else what follows
abbrev pub unless : {A : Type 0} → Option Refusal → State → Result A Refusal × State → Result A Refusal × State
unless (Some refusal) st served = (Err refusal, st)
unless None st served = served

-- whether every number is given out
abbrev pub full_fault : State → Option Refusal
full_fault st = if nat_lt most_numbers st.next then Some Full else None

-- the new step, and the message that it took
abbrev pub done_by : List LocalType → State → ℕ → Act → Done
done_by types st p act = record { id = st.next; got = taken act (moved (view_of types st.history) p act) }

-- the answer to an act of role p: why its type doesn't allow it, else Full where every number is given out, else the
-- new step
abbrev pub forward : List LocalType → State → ℕ → Act → Result Done Refusal × State
forward types st p act =
    unless (option_map Violates (violation (view_of types st.history) p act)) st
    (unless (full_fault st) st (Ok (done_by types st p act), accepted st p act))

-- whether role p may undo the step: it survives and is p's
abbrev pub owner_fault : ℕ → Option Step → Option Refusal
owner_fault p None = Some NoStep
owner_fault p (Some s) = if s.role == p then None else Some NotYours

-- whether a step is a commit, which nothing undoes, and which
abbrev pub commit_fault : Option Step → Option Refusal
commit_fault None = None
commit_fault (Some s) = if is_commit s.act then Some (Final s.id) else None

-- whether there is a commit among step n and all that depend on it, and the least such
abbrev pub final_fault : List Step → ℕ → Option Refusal
final_fault h n = option_map Final (least (commits_from h n))

-- step n is removed
abbrev pub undone : State → ℕ → Result (List ℕ) Refusal × State
undone st n = (Ok (n ∷ []), record st { history = without st.history (λ m. m == n) })

-- the answer of role p's undo of step n: a commit stays, and is named; any other step is removed where no other depends
-- on it, else the least that does is named
abbrev pub undo : State → ℕ → ℕ → Result (List ℕ) Refusal × State
undo st p n =
    unless (owner_fault p (step_of st.history n)) st
    (unless (commit_fault (step_of st.history n)) st
    (unless (option_map Needed (least (dependents st.history n))) st (undone st n)))

-- step n and all that depend on it are removed, and the answer has their numbers, the newest first
abbrev pub rolled_back : State → ℕ → Result (List ℕ) Refusal × State
rolled_back st n =
    let gone = consequences st.history n in
    (Ok (reverse (numbers (within st.history gone))), record st { history = without st.history gone })

-- step n and all that depend on it are removed where no commit is among them, else the least of these is named
abbrev pub rolled_back_unless_final : State → ℕ → Result (List ℕ) Refusal × State
rolled_back_unless_final st n = unless (final_fault st.history n) st (rolled_back st n)

-- the answer of role p's rollback of step n
abbrev pub rollback : State → ℕ → ℕ → Result (List ℕ) Refusal × State
rollback st p n = unless (owner_fault p (step_of st.history n)) st (rolled_back_unless_final st n)

-- whether the act marks a checkpoint of this name
abbrev pub is_mark : List ℕ → Act → Bool
is_mark name (Mark m) = bytes_eq m name
is_mark name act = false

-- what comes after the last mark of the name, if there is one
abbrev pub since_mark : List ℕ → List Step → Option (List Step)
since_mark name [] = None
since_mark name (s ∷ h) =
    if is_some (since_mark name h) then since_mark name h else if is_mark name s.act then Some h else None

-- the answer of a return to a mark, by what comes after the mark: the first of these steps is rolled back
abbrev pub back_to : Option (List Step) → State → Result (List ℕ) Refusal × State
back_to None st = (Err NoMark, st)
back_to (Some []) st = (Ok [], st)
back_to (Some (s ∷ h)) st = rolled_back_unless_final st s.id

-- the answer of role p's return to its last mark of the name: a rollback of p's first step after it
abbrev pub back : State → ℕ → List ℕ → Result (List ℕ) Refusal × State
back st p name = back_to (since_mark name (steps_of p st.history)) st

-- a new step or a refusal as an answer, and the same of steps that were removed
abbrev pub stepped : Result Done Refusal → Answer
stepped (Ok done) = Stepped done
stepped (Err refusal) = Refused refusal

abbrev pub removed : Result (List ℕ) Refusal → Answer
removed (Ok ids) = Undone ids
removed (Err refusal) = Refused refusal

-- the answer to a command of role p, and the state after it
abbrev pub serve : List LocalType → State → ℕ → Change → Answer × State
serve types st p (Forward step) = let r = forward types st p (act_of step) in (stepped r.0, r.1)
serve types st p (Undo n) = let r = undo st p n in (removed r.0, r.1)
serve types st p (Rollback n) = let r = rollback st p n in (removed r.0, r.1)
serve types st p (Back name) = let r = back st p name in (removed r.0, r.1)

-- a role and what it asks for
abbrev pub Request : Type 0
Request = ℕ × Change

-- the answers to requests, in order
abbrev pub answers : List LocalType → State → List Request → List Answer
answers types st [] = []
answers types st (r ∷ rs) = let served = serve types st r.0 r.1 in served.0 ∷ answers types served.1 rs

-- the state after requests
abbrev pub after : List LocalType → State → List Request → State
after types st [] = st
after types st (r ∷ rs) = after types (serve types st r.0 r.1).1 rs

-- what holds of every state that commands lead to
pub record IsSound (types : List LocalType) (st : State) : Type 0 where
  pub rising : IsRising st.history
  pub below : AllByRecursion (λ s. s.id < st.next) st.history
  pub view : View
  pub replayed : replay (opening types) st.history ≡ Some view
