-- Proves the law `worked_actions`, clauses `end`, `output`, `one_loop`, `loop_in_a_loop`, `loop_of_the_same_name`, `choice` and 4 more.
use Rattle.std.proofs.Common.{refl}
use Rattle.mps_local.specs.Unfolding.{unfolded}
use Rattle.mps_local.proofs.examples.worked_actions.Goals as goal

pub returns-clause-end : goal.returns-clause-end
unfolding unfolded
returns-clause-end c = (refl, refl, refl)

pub returns-clause-output : goal.returns-clause-output
unfolding unfolded
returns-clause-output c = (refl, refl)

pub returns-clause-one_loop : goal.returns-clause-one_loop
unfolding unfolded
returns-clause-one_loop c = (refl, refl)

pub returns-clause-loop_in_a_loop : goal.returns-clause-loop_in_a_loop
unfolding unfolded
returns-clause-loop_in_a_loop c = (refl, refl)

pub returns-clause-loop_of_the_same_name : goal.returns-clause-loop_of_the_same_name
unfolding unfolded
returns-clause-loop_of_the_same_name c = (refl, refl)

pub returns-clause-choice : goal.returns-clause-choice
unfolding unfolded
returns-clause-choice c = (refl, refl, refl, refl)

pub returns-clause-pick : goal.returns-clause-pick
unfolding unfolded
returns-clause-pick c = (refl, refl)

pub returns-clause-choice_in_a_loop : goal.returns-clause-choice_in_a_loop
unfolding unfolded
returns-clause-choice_in_a_loop c = (refl, refl, refl, refl, refl, refl)

pub returns-clause-pick_in_a_loop : goal.returns-clause-pick_in_a_loop
unfolding unfolded
returns-clause-pick_in_a_loop c = (refl, refl, refl, refl, refl, refl)

pub returns-clause-loop_after_an_action : goal.returns-clause-loop_after_an_action
unfolding unfolded
returns-clause-loop_after_an_action c = (refl, refl, refl, refl, refl)
