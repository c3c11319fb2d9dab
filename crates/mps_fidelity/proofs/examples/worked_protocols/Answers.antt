-- Proves the law `worked_protocols`, clauses `relay`, `loop_in_a_loop`, `choice_in_a_loop`, `idle_loop`, `another_answer_is_given`, `rounds_go_on` and 6 more.
use Rattle.std.proofs.Common.{◌≡◌, ℕ, zero, suc, ◌<◌, List, length, refl, arith}
use Rattle.std.specs.Prelude.{slice_get}
use Rattle.mps_global.specs.Global.{GlobalType}
use Rattle.mps_local.specs.Examples.{three, relay, loops, rounds}
use Rattle.mps_local.specs.Local.{LocalType}
use Rattle.mps_local.specs.Outcome.{AreProjections}
use Rattle.mps_local.specs.Projection.{projection}
use Rattle.mps_local.specs.Unfolding.{unfolded}
use Rattle.mps_local.specs.declared.merging.Merging.{Merging}
use Rattle.mps_local.specs.declared.merging.Merging.TheVariants.{Plain, Full}
use Rattle.mps_machine.specs.Examples.{verdict}
use Rattle.mps_fidelity.specs.Examples.{loop_types, merging, merging_types, aside, aside_types, round_types, heard_late, heard_late_types, told_apart, told_apart_types}
use Rattle.mps_fidelity.proofs.examples.worked_protocols.Goals as goal

-- the types of three roles, one after the other
each_of : (kind : Merging) (tree : GlobalType) (types : List LocalType) → length types ≡ 3 → projection kind three 0 tree ≡ slice_get types 0 → projection kind three 1 tree ≡ slice_get types 1 → projection kind three 2 tree ≡ slice_get types 2 → AreProjections kind three tree types
each_of kind tree types count e f g = record { count = count; each = at }
  where
    at : (p : ℕ) → p < length three → projection kind three p tree ≡ slice_get types p
    at zero l = e
    at (suc zero) l = f
    at (suc (suc zero)) l = g
    at (suc (suc (suc p))) l = absurd (omega arith)

pub returns-clause-relay : goal.returns-clause-relay
returns-clause-relay c = (refl, each_of Plain relay verdict refl refl refl refl)

pub returns-clause-loop_in_a_loop : goal.returns-clause-loop_in_a_loop
returns-clause-loop_in_a_loop c = (refl, each_of Plain loops loop_types refl refl refl refl)

pub returns-clause-choice_in_a_loop : goal.returns-clause-choice_in_a_loop
returns-clause-choice_in_a_loop c = (refl, each_of Plain merging merging_types refl refl refl refl)

pub returns-clause-idle_loop : goal.returns-clause-idle_loop
returns-clause-idle_loop c = (refl, each_of Plain aside aside_types refl refl refl refl)

pub returns-clause-loop_of_three : goal.returns-clause-loop_of_three
returns-clause-loop_of_three c = (refl, each_of Full rounds round_types refl refl refl refl)

pub returns-clause-heard_late : goal.returns-clause-heard_late
returns-clause-heard_late c = (refl, each_of Full heard_late heard_late_types refl refl refl refl)

pub returns-clause-told_apart : goal.returns-clause-told_apart
returns-clause-told_apart c = (refl, each_of Full told_apart told_apart_types refl refl refl refl)

pub returns-clause-another_branch_is_taken : goal.returns-clause-another_branch_is_taken
unfolding unfolded
returns-clause-another_branch_is_taken c = refl

pub returns-clause-another_answer_is_given : goal.returns-clause-another_answer_is_given
unfolding unfolded
returns-clause-another_answer_is_given c = refl

pub returns-clause-rounds_go_on : goal.returns-clause-rounds_go_on
unfolding unfolded
returns-clause-rounds_go_on c = refl

pub returns-clause-either_branch_is_taken : goal.returns-clause-either_branch_is_taken
unfolding unfolded
returns-clause-either_branch_is_taken c = refl

pub returns-clause-three_leave_together : goal.returns-clause-three_leave_together
unfolding unfolded
returns-clause-three_leave_together c = refl
