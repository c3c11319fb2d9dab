-- Proves the law `worked_projections`, clauses `relay_of_a`, `relay_of_b`, `relay_of_c`, `loops_of_a`, `loops_of_b`, `loops_of_c` and 23 more.
use Rattle.std.proofs.Common.{refl}
use Rattle.mps_local.proofs.examples.worked_projections.Goals as goal

pub returns-clause-relay_of_a : goal.returns-clause-relay_of_a
returns-clause-relay_of_a c = ((refl, refl), (refl, refl))

pub returns-clause-relay_of_b : goal.returns-clause-relay_of_b
returns-clause-relay_of_b c = ((refl, refl), (refl, refl))

pub returns-clause-relay_of_c : goal.returns-clause-relay_of_c
returns-clause-relay_of_c c = ((refl, refl), (refl, refl))

pub returns-clause-loops_of_a : goal.returns-clause-loops_of_a
returns-clause-loops_of_a c = ((refl, refl), (refl, refl))

pub returns-clause-loops_of_b : goal.returns-clause-loops_of_b
returns-clause-loops_of_b c = ((refl, refl), (refl, refl))

pub returns-clause-loops_of_c : goal.returns-clause-loops_of_c
returns-clause-loops_of_c c = ((refl, refl), (refl, refl))

pub returns-clause-idle_loop : goal.returns-clause-idle_loop
returns-clause-idle_loop c = ((refl, refl), (refl, refl))

pub returns-clause-same_value : goal.returns-clause-same_value
returns-clause-same_value c = ((refl, refl), (refl, refl))

pub returns-clause-same_choice : goal.returns-clause-same_choice
returns-clause-same_choice c = ((refl, refl), (refl, refl))

pub returns-clause-same_loop : goal.returns-clause-same_loop
returns-clause-same_loop c = ((refl, refl), (refl, refl))

pub returns-clause-sort_alone : goal.returns-clause-sort_alone
returns-clause-sort_alone c = ((refl, refl), (refl, refl))

pub returns-clause-peer_alone : goal.returns-clause-peer_alone
returns-clause-peer_alone c = ((refl, refl), (refl, refl))

pub returns-clause-peer_of_a_choice_alone : goal.returns-clause-peer_of_a_choice_alone
returns-clause-peer_of_a_choice_alone c = ((refl, refl), (refl, refl))

pub returns-clause-label_chosen_alone : goal.returns-clause-label_chosen_alone
returns-clause-label_chosen_alone c = ((refl, refl), (refl, refl))

pub returns-clause-variable_alone : goal.returns-clause-variable_alone
returns-clause-variable_alone c = ((refl, refl), (refl, refl))

pub returns-clause-name_of_a_loop_alone : goal.returns-clause-name_of_a_loop_alone
returns-clause-name_of_a_loop_alone c = ((refl, refl), (refl, refl))

pub returns-clause-kind_of_a_value_alone : goal.returns-clause-kind_of_a_value_alone
returns-clause-kind_of_a_value_alone c = ((refl, refl), (refl, refl))

pub returns-clause-kind_of_a_choice_alone : goal.returns-clause-kind_of_a_choice_alone
returns-clause-kind_of_a_choice_alone c = ((refl, refl), (refl, refl))

pub returns-clause-ending_alone : goal.returns-clause-ending_alone
returns-clause-ending_alone c = ((refl, refl), (refl, refl))

pub returns-clause-label_alone : goal.returns-clause-label_alone
returns-clause-label_alone c = ((refl, refl), (refl, refl))

pub returns-clause-what_follows_a_label : goal.returns-clause-what_follows_a_label
returns-clause-what_follows_a_label c = ((refl, refl), (refl, refl))

pub returns-clause-labels_in_order : goal.returns-clause-labels_in_order
returns-clause-labels_in_order c = ((refl, refl), (refl, refl))

pub returns-clause-three_branches : goal.returns-clause-three_branches
returns-clause-three_branches c = ((refl, refl), (refl, refl))

pub returns-clause-sixteen_labels : goal.returns-clause-sixteen_labels
returns-clause-sixteen_labels c = ((refl, refl), (refl, refl))

pub returns-clause-seventeen_labels : goal.returns-clause-seventeen_labels
returns-clause-seventeen_labels c = ((refl, refl), (refl, refl))

pub returns-clause-in_a_loop : goal.returns-clause-in_a_loop
returns-clause-in_a_loop c = ((refl, refl), (refl, refl))

pub returns-clause-after_its_own_choice : goal.returns-clause-after_its_own_choice
returns-clause-after_its_own_choice c = ((refl, refl), (refl, refl))

pub returns-clause-order_of_choices : goal.returns-clause-order_of_choices
returns-clause-order_of_choices c = ((refl, refl), (refl, refl))

pub returns-clause-a_loop_of_three_ends : goal.returns-clause-a_loop_of_three_ends
returns-clause-a_loop_of_three_ends c = ((refl, refl), (refl, refl))
