-- What a session keeps, as lists, and how an act changes it.
use Rattle.std.specs.Prelude.{◌≡◌, ℕ, ◌+◌, ◌<◌, ◌≤◌, ⊤, List, Option, Some, None, slice_get, slice_index_or, slice_set}
use Rattle.std.specs.Prelude.{IsSome}
use Rattle.mps_base.specs.declared.action.Act.{Act}
use Rattle.mps_base.specs.Effects.{Effect, Gives, Takes, Idle, effect}
use Rattle.mps_base.specs.declared.action.Message.{Message}
use Rattle.mps_command.specs.declared.answer.Refusal.{Refusal}
use Rattle.mps_command.specs.declared.answer.Refusal.TheVariants.{Violation as Violates, Full}
use Rattle.mps_command.specs.declared.answer.Violation.{Violation}
use Rattle.mps_command.specs.declared.command.Forward.{Forward}
use Rattle.mps_command.specs.declared.command.Forward.TheVariants.{Receive, Pick}
use Rattle.mps_local.specs.Local.{LocalType}
use Rattle.mps_local.specs.Unfolding.{unfolded}
use Rattle.mps_history.specs.Steps.{unreceived}
use Rattle.mps_machine.specs.View.{Participant}
use Rattle.mps_machine.specs.Rule.{participant_after}
use Rattle.mps_machine.specs.Violations.{act_fault}
use Rattle.mps_machine.specs.Machine.{State, most_numbers}
use Rattle.mps_arena.specs.KeyedSteps.{KeyedStep, steps}
use Rattle.mps_arena.specs.Neighbours.{first_waiting}
use Rattle.mps_log.specs.Joins.{HasJoined}
use Rattle.mps_log.specs.Logged.{Logged}
use Rattle.mps_table.specs.Standing.{StandsFor}
use Rattle.mps_session.specs.Private.Cursors.{IsFor, nowhere, went}
use Rattle.mps_session.specs.declared.cursor.Cursor.{Cursor}
use Rattle.mps_session.specs.declared.configuration.Configuration.{Configuration}

-- for each role where it stands; the steps that survive, with what each keeps, and how many numbers were given out
pub record Lists : Type 0 where
  pub cursors : List Cursor
  pub keyed_steps : List KeyedStep
  pub issued : ℕ

-- the lists that are kept
abbrev pub lists_of : Configuration → Lists
lists_of k = record { cursors = k.cursors.items; keyed_steps = k.log.keyed_steps; issued = k.log.issued }

-- the steps, as a log has them
abbrev pub logged : Lists → Logged
logged c = record { keyed_steps = c.keyed_steps; issued = c.issued }

-- where role p stands
abbrev pub cursor_of : Lists → ℕ → Cursor
cursor_of c p = slice_index_or c.cursors p nowhere

-- the history and the next number
abbrev pub state_of : Lists → State
state_of c = record { history = steps c.keyed_steps; next = c.issued + 1 }

-- the message that goes with an effect of role p: the one that it gives, or the first that waits where it takes one
abbrev pub moved_for : Lists → ℕ → Effect → Option Message
moved_for c p (Gives to m) = Some m
moved_for c p (Takes from slot) = slice_get (unreceived from p (steps c.keyed_steps)) 0
moved_for c p Idle = None

-- the message that an act of role p gives, or the one that it takes, if there is one
abbrev pub moved_in : Lists → ℕ → Act → Option Message
moved_in c p act = moved_for c p (effect act)

-- role p stands at a node for the type
abbrev pub StandsAt : Lists → ℕ → LocalType → Type 0
StandsAt c p t = IsFor (cursor_of c p) t

-- why the type doesn't allow the act of role p
abbrev pub fault_in : Lists → ℕ → Act → LocalType → Option Violation
fault_in c p act t = act_fault (unfolded t) act (moved_in c p act)

-- the act of role p, where its type allows it, leads to that node
abbrev pub LeadsTo : Lists → ℕ → Act → ℕ → Type 0
LeadsTo c p act node =
    (before after : Participant) → StandsAt c p before.to_come
    → participant_after before act (moved_in c p act) ≡ Some after
    → StandsFor (cursor_of c p).table node after.to_come

-- the peer is below 8, and there is a message where one is taken
abbrev pub IsReadyEffect : Lists → ℕ → Effect → Type 0
IsReadyEffect c p (Gives to m) = to < 8
IsReadyEffect c p (Takes from slot) = (from < 8) × IsSome (first_waiting c.keyed_steps from p)
IsReadyEffect c p Idle = ⊤

-- role and peer are below 8, and there is a message where the act takes one
abbrev pub IsReady : Lists → ℕ → Act → Type 0
IsReady c p act = (p < 8) × IsReadyEffect c p (effect act)

-- why the act of role p is refused, unless memory runs out: its type doesn't allow it, or no number is left
abbrev pub IsBarred : Lists → ℕ → Act → Refusal → Type 0
IsBarred c p act (Violates fault) = (t : LocalType) → StandsAt c p t → fault_in c p act t ≡ Some fault
IsBarred c p act Full = (most_numbers ≤ c.issued) × ((t : LocalType) → StandsAt c p t → fault_in c p act t ≡ None)
IsBarred c p act refusal = ⊥

-- the peer of whom a command takes a message, if it takes one
abbrev pub taken_from : Forward → Option ℕ
taken_from (Receive from slot) = Some from
taken_from (Pick from) = Some from
taken_from command = None

-- the act of role p is the newest step, and the role goes on at the node
pub record HasActed (p : ℕ) (act : Act) (node : ℕ) (old new : Lists) : Type 0 where
  pub cursors : new.cursors ≡ slice_set old.cursors p (went node (cursor_of old p))
  pub joined : HasJoined (logged old) (logged new) p act (cursor_of old p).node
