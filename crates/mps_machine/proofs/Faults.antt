-- Why the machine refuses a step, by whether its act is allowed.
use Rattle.std.proofs.Common.{arith, ◌≡◌, ℕ, Bool, List, Option, Some, None, Result, Ok, ap}
use Rattle.std.specs.Prelude.{nat_lt, if◌then◌else◌}
use Rattle.std.specs.Option.{option_map}
use Rattle.mps_base.specs.declared.action.Act.{Act}
use Rattle.mps_command.specs.declared.answer.Answer.{Answer}
use Rattle.mps_command.specs.declared.answer.Done.{Done}
use Rattle.mps_command.specs.declared.answer.Refusal.{Refusal}
use Rattle.mps_command.specs.declared.answer.Refusal.TheVariants.{Violation as Violates, Full}
use Rattle.mps_command.specs.declared.answer.Violation.{Violation}
use Rattle.mps_local.specs.Local.{LocalType}
use Rattle.mps_machine.specs.Faults.{refusal_in}
use Rattle.mps_machine.specs.Machine.{State, most_numbers, view_of, unless, done_by, accepted, forward, stepped}
use Rattle.mps_machine.specs.Violations.{violation}

module _ (types : List LocalType) (st : State) (p : ℕ) (act : Act) where
  abbrev step_answer : Option Violation → Bool → Answer
  step_answer fault full =
      let new : Result Done Refusal × State = (Ok (done_by types st p act), accepted st p act) in
      stepped (unless (option_map Violates fault) st (unless (if full then Some Full else None) st new)).0

  pub forward_refused : (fault : Violation) → violation (view_of types st.history) p act ≡ Some fault → refusal_in (stepped (forward types st p act).0) ≡ Some (Violates fault)
  forward_refused fault e = ap (λ (f : Option Violation). refusal_in (step_answer f (nat_lt most_numbers st.next))) e

  pub forward_allowed : violation (view_of types st.history) p act ≡ None → refusal_in (stepped (forward types st p act).0) ≡ None
  forward_allowed e = grind arith
