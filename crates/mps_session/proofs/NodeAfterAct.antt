-- The node of a verdict stands for what the participant may do after the act.
use Rattle.std.proofs.Common.{arith, ◌≡◌, ℕ, Option, Some, Result, Ok}
use Rattle.std.specs.Prelude.{IsTrue, IfOk}
use Rattle.mps_base.specs.declared.action.Message.{Message}
use Rattle.mps_command.specs.Acts.{act_of}
use Rattle.mps_command.specs.declared.answer.Violation.{Violation}
use Rattle.mps_command.specs.declared.command.Forward.{Forward}
use Rattle.mps_local.specs.Local.{LocalType}
use Rattle.mps_local.specs.Unfolding.{unfolded}
use Rattle.mps_machine.specs.Rule.{type_after, participant_after}
use Rattle.mps_machine.specs.View.{Participant}
use Rattle.mps_machine.proofs.Stepping.{map_some}
use Rattle.mps_monitor.specs.Verdicts.{is_idle}
use Rattle.mps_table.specs.Graph.{Graph}
use Rattle.mps_table.specs.Standing.{StandsFor}

module _ (g : Graph) (node : ℕ) (m : Option Message) where
  pub follows_all : (r : Result ℕ Violation) (command : Forward) → (IsTrue (is_idle command) → r ≡ Ok node) → IfOk r (λ next. (t u : LocalType) → StandsFor g node t → type_after (unfolded t) (act_of command) m ≡ Some u → StandsFor g next u) → IfOk r (λ next. (before after : Participant) → StandsFor g node before.to_come → participant_after before (act_of command) m ≡ Some after → StandsFor g next after.to_come)
  follows_all r command idle follows = grind (arith, map_some)
