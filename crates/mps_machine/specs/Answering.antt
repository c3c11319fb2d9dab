-- What a program answers to a change, against the machine: the same, unless memory runs out.
use Rattle.std.specs.Prelude.{◌≡◌, ℕ, ⊤, List, Result, Ok, Err, IsOk, OnOk, OnErr}
use Rattle.mps_local.specs.Local.{LocalType}
use Rattle.mps_command.specs.declared.command.Change.{Change}
use Rattle.mps_command.specs.declared.command.Change.TheVariants.{Undo}
use Rattle.mps_command.specs.declared.answer.Answer.{Answer}
use Rattle.mps_command.specs.declared.answer.Answer.TheVariants.{Refused}
use Rattle.mps_command.specs.declared.answer.Refusal.{Refusal}
use Rattle.mps_command.specs.declared.answer.Refusal.TheVariants.{Memory}
use Rattle.mps_machine.specs.Machine.{State, serve}

-- the result is the machine's, but memory may run out where the machine accepts
abbrev pub IsAnswer : {A : Type 0} → Result A Refusal → Result A Refusal → Type 0
IsAnswer (Err Memory) wanted = IsOk wanted
IsAnswer result wanted = result ≡ wanted

-- The result is the machine's, unless memory runs out, and the state after it too; a refusal changes nothing. Memory
-- runs out only where it may.
pub record IsServed {A : Type 0} (may_starve : Type 0) (result : Result A Refusal) (old new : State)
    (served : Result A Refusal × State) : Type 0 where
  pub answer : IsAnswer result served.0
  pub state : OnOk result (new ≡ served.1)
  pub err : OnErr result (new ≡ old)
  pub starved : result ≡ Err Memory → may_starve

-- memory may run out for a change, but never for an undo
abbrev pub MayStarve : Change → Type 0
MayStarve (Undo id) = ⊥
MayStarve change = ⊤

-- an answer as a result: it refuses, or it is what is accepted
abbrev pub result_of : Answer → Result Answer Refusal
result_of (Refused refusal) = Err refusal
result_of answer = Ok answer

-- what comes of role p's change, as a result
abbrev pub served_result : List LocalType → State → ℕ → Change → Result Answer Refusal × State
served_result types st p change = let served = serve types st p change in (result_of served.0, served.1)

-- the result is the machine's answer to role p's change, unless memory runs out, and the state after it is the
-- machine's
abbrev pub IsChanged : List LocalType → ℕ → Change → Result Answer Refusal → (old new : State) → Type 0
IsChanged types p change result old new = IsServed (MayStarve change) result old new (served_result types old p change)
