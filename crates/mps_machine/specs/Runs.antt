-- What runs of commands come to, and runs of undos alone and of steps alone that come to the same. That some steps back
-- and then steps forward lead wherever any others do is the parabolic lemma of Danos, Krivine (Reversible communicating
-- systems, CONCUR 2004).
use Rattle.std.specs.Prelude.{◌≡◌, ◌+◌, ⊤, List, ◌++◌, length}
use Rattle.std.specs.List.{AllByRecursion}
use Rattle.mps_base.specs.declared.action.Step.{Step}
use Rattle.mps_local.specs.Local.{LocalType}
use Rattle.mps_command.specs.declared.command.Change.{Change}
use Rattle.mps_command.specs.declared.command.Change.TheVariants.{Forward, Undo}
use Rattle.mps_history.specs.Swaps.{deeds}
use Rattle.mps_machine.specs.Machine.{State, initial, Request, after}

-- the steps of a new session that survive what is asked for
abbrev pub survivors : List LocalType → List Request → List Step
survivors types requests = (after types initial requests).history

-- the change is a step forward
abbrev pub IsForward : Change → Type 0
IsForward (Forward step) = ⊤
IsForward change = ⊥

-- the change is an undo of one step
abbrev pub IsUndo : Change → Type 0
IsUndo (Undo n) = ⊤
IsUndo change = ⊥

-- steps forward are all that is asked for
abbrev pub AreForward : List Request → Type 0
AreForward requests = AllByRecursion (λ request. IsForward request.1) requests

-- undos are all that is asked for
abbrev pub AreUndos : List Request → Type 0
AreUndos requests = AllByRecursion (λ request. IsUndo request.1) requests

-- steps alone that lead from a new session to this history, numbers aside: as many as it has
pub record LeadsForward (types : List LocalType) (h : List Step) : Type 0 where
  pub steps : List Request
  pub forward : AreForward steps
  pub as_many : length steps ≡ length h
  pub leads : deeds (survivors types steps) ≡ deeds h

-- undos alone and then steps alone that lead from one state to the other's history, numbers aside: each undo takes one
-- step back, and each step adds one
pub record LeadsBackAndForth (types : List LocalType) (from to : State) : Type 0 where
  pub undos : List Request
  pub steps : List Request
  pub back : AreUndos undos
  pub forth : AreForward steps
  pub taken_back : length (after types from undos).history + length undos ≡ length from.history
  pub taken : length (after types from undos).history + length steps ≡ length to.history
  pub leads : deeds (after types from (undos ++ steps)).history ≡ deeds to.history
