-- A session, as contracts see it: the state of a plain machine.
use Rattle.std.specs.Prelude.{List, [], ◌∷◌, ◌++◌, Option}
use Rattle.mps_base.specs.declared.action.Message.{Message}
use Rattle.mps_base.specs.declared.action.Step.{Step}
use Rattle.mps_local.specs.Local.{LocalType}
use Rattle.mps_machine.specs.Rule.{moved}
use Rattle.mps_machine.specs.View.{View}
use Rattle.mps_machine.specs.Machine as machine
use Rattle.mps_machine.specs.Machine.{State}

-- the opening types of the roles, in order; the steps that survive, and the next number
pub record SessionState : Type 0 where
  pub types : List LocalType
  pub state : State

-- the view of a session: what replaying the surviving steps gives
abbrev pub session_view : SessionState → View
session_view m = machine.view_of m.types m.state.history

-- steps, each with the message that it gives or takes where it is replayed after those that are done
abbrev pub moved_from : List LocalType → List Step → List Step → List (Step × Option Message)
moved_from types done [] = []
moved_from types done (s ∷ h) =
    (s, moved (machine.view_of types done) s.role s.act) ∷ moved_from types (done ++ s ∷ []) h

-- the surviving steps, each with the message that it gave or took
abbrev pub moves_of : SessionState → List (Step × Option Message)
moves_of m = moved_from m.types [] m.state.history
