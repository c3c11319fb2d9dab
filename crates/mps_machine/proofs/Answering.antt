-- What an answer says as a result, and that the machine never runs out of memory, nor of numbers while one is left.
use Rattle.std.proofs.Common.{arith, ◌≡◌, ◌≢◌, ℕ, ◌≤◌, List, Ok, Err}
use Rattle.std.proofs.lemmas.Bool.{cond-false, le-ltb}
use Rattle.std.specs.Prelude.{IfSome}
use Rattle.mps_command.specs.declared.answer.Answer.{Answer}
use Rattle.mps_command.specs.declared.answer.Answer.TheVariants.{Refused}
use Rattle.mps_command.specs.declared.answer.Refusal.{Refusal}
use Rattle.mps_command.specs.declared.answer.Refusal.TheVariants.{Violation as Violates, NoStep, NotYours, Final, Needed, NoMark, Full, Memory}
use Rattle.mps_command.specs.declared.answer.Violation.{Violation}
use Rattle.mps_command.specs.declared.command.Change.{Change}
use Rattle.mps_command.specs.declared.command.Change.TheVariants as changes
use Rattle.mps_local.specs.Local.{LocalType}
use Rattle.mps_machine.specs.Answering.{IsAnswer, result_of}
use Rattle.mps_machine.specs.Machine.{State, most_numbers, full_fault, serve}

-- what is accepted is the answer that it is a result of
pub from_ok : (a b : Answer) → Ok a ≡ result_of b → a ≡ b
from_ok a b e = grind arith

-- and no refusal
pub no_refusal : (a b : Answer) → Ok a ≡ result_of b → result_of a ≡ Ok a
no_refusal a b e = grind (arith, from_ok)

-- a refusal that memory has no part in answers what is refused so
pub answers_itself : (refusal : Refusal) → refusal ≢ Memory → IsAnswer {A = Answer} (Err refusal) (Err refusal)
answers_itself refusal other = grind arith

-- a refusal that the machine never gives for its own reasons, that no number is left aside
record IsStrange (bad : Refusal) : Type 0 where
  violates : (v : Violation) → Violates v ≢ bad
  no_step : NoStep ≢ bad
  not_yours : NotYours ≢ bad
  final : (n : ℕ) → Final n ≢ bad
  needed : (n : ℕ) → Needed n ≢ bad
  no_mark : NoMark ≢ bad

module _ (bad : Refusal) (strange : IsStrange bad) where
  abbrev IsNamed : Refusal → Type 0
  IsNamed refusal = refusal ≢ bad

  never : (types : List LocalType) (st : State) (p : ℕ) (change : Change) → IfSome (full_fault st) IsNamed → (serve types st p change).0 ≢ Refused bad
  never types st p change full = grind arith

-- the machine itself never runs out of memory
pub never_memory : (types : List LocalType) (st : State) (p : ℕ) (change : Change) → (serve types st p change).0 ≢ Refused Memory
never_memory types st p change = grind arith

-- and never Full, while a number is left
pub never_full : (types : List LocalType) (st : State) (p : ℕ) (change : Change) → st.next ≤ most_numbers → (serve types st p change).0 ≢ Refused Full
never_full types st p change left = grind (arith, cond-false, le-ltb)
