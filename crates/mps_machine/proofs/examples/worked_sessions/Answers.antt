-- Proves the law `worked_sessions`, clauses `an_undo_waits_for_the_receipt`, `a_rollback_removes_all_that_depends`, `a_rollback_leaves_the_strangers`, `a_rollback_leaves_what_came_before`, `a_receipt_undone_takes_the_same_message_again`, `an_undone_send_is_gone` and 26 more.
use Rattle.std.proofs.Common.{refl, [], arith}
use Rattle.mps_history.specs.Swaps.{Same, Exchange}
use Rattle.mps_local.specs.Unfolding.{unfolded}
use Rattle.mps_machine.proofs.examples.worked_sessions.Goals as goal

pub returns-clause-an_undo_waits_for_the_receipt : goal.returns-clause-an_undo_waits_for_the_receipt
unfolding unfolded
returns-clause-an_undo_waits_for_the_receipt c = refl

pub returns-clause-a_rollback_removes_all_that_depends : goal.returns-clause-a_rollback_removes_all_that_depends
unfolding unfolded
returns-clause-a_rollback_removes_all_that_depends c = refl

pub returns-clause-a_rollback_leaves_the_strangers : goal.returns-clause-a_rollback_leaves_the_strangers
unfolding unfolded
returns-clause-a_rollback_leaves_the_strangers c = (refl, refl)

pub returns-clause-a_rollback_leaves_what_came_before : goal.returns-clause-a_rollback_leaves_what_came_before
unfolding unfolded
returns-clause-a_rollback_leaves_what_came_before c = refl

pub returns-clause-a_receipt_undone_takes_the_same_message_again : goal.returns-clause-a_receipt_undone_takes_the_same_message_again
unfolding unfolded
returns-clause-a_receipt_undone_takes_the_same_message_again c = refl

pub returns-clause-an_undone_send_is_gone : goal.returns-clause-an_undone_send_is_gone
unfolding unfolded
returns-clause-an_undone_send_is_gone c = refl

pub returns-clause-a_receipt_into_a_used_slot_is_undone : goal.returns-clause-a_receipt_into_a_used_slot_is_undone
unfolding unfolded
returns-clause-a_receipt_into_a_used_slot_is_undone c = refl

pub returns-clause-the_least_dependent_is_named_a_send : goal.returns-clause-the_least_dependent_is_named_a_send
unfolding unfolded
returns-clause-the_least_dependent_is_named_a_send c = refl

pub returns-clause-the_least_dependent_is_named_a_receipt : goal.returns-clause-the_least_dependent_is_named_a_receipt
unfolding unfolded
returns-clause-the_least_dependent_is_named_a_receipt c = refl

pub returns-clause-a_return_to_a_mark_leaves_the_mark : goal.returns-clause-a_return_to_a_mark_leaves_the_mark
unfolding unfolded
returns-clause-a_return_to_a_mark_leaves_the_mark c = refl

pub returns-clause-numbers_are_never_used_again : goal.returns-clause-numbers_are_never_used_again
unfolding unfolded
returns-clause-numbers_are_never_used_again c = refl

pub returns-clause-refusals_are_named : goal.returns-clause-refusals_are_named
unfolding unfolded
returns-clause-refusals_are_named c = refl

pub returns-clause-the_first_violation_is_told : goal.returns-clause-the_first_violation_is_told
unfolding unfolded
returns-clause-the_first_violation_is_told c = (refl, refl)

pub returns-clause-a_choice_is_made_and_picked : goal.returns-clause-a_choice_is_made_and_picked
unfolding unfolded
returns-clause-a_choice_is_made_and_picked c = refl

pub returns-clause-a_message_of_another_sort_is_a_mismatch : goal.returns-clause-a_message_of_another_sort_is_a_mismatch
unfolding unfolded
returns-clause-a_message_of_another_sort_is_a_mismatch c = refl

pub returns-clause-the_message_waits_again : goal.returns-clause-the_message_waits_again
unfolding unfolded
returns-clause-the_message_waits_again c = (refl, refl)

pub returns-clause-the_slot_has_its_old_value : goal.returns-clause-the_slot_has_its_old_value
unfolding unfolded
returns-clause-the_slot_has_its_old_value c = (refl, refl)

pub returns-clause-a_hundred_thousand_numbers_are_given_out : goal.returns-clause-a_hundred_thousand_numbers_are_given_out
unfolding unfolded
returns-clause-a_hundred_thousand_numbers_are_given_out c = (refl, refl)

pub returns-clause-a_mark_may_have_the_last_number : goal.returns-clause-a_mark_may_have_the_last_number
unfolding unfolded
returns-clause-a_mark_may_have_the_last_number c = (refl, refl, refl)

pub returns-clause-a_return_is_to_the_last_mark_of_the_name : goal.returns-clause-a_return_is_to_the_last_mark_of_the_name
unfolding unfolded
returns-clause-a_return_is_to_the_last_mark_of_the_name c = (refl, refl)

pub returns-clause-another_roles_step_is_not_yours : goal.returns-clause-another_roles_step_is_not_yours
unfolding unfolded
returns-clause-another_roles_step_is_not_yours c = refl

pub returns-clause-a_choice_is_of_one_peer : goal.returns-clause-a_choice_is_of_one_peer
unfolding unfolded
returns-clause-a_choice_is_of_one_peer c = refl

pub returns-clause-an_unexpected_message_is_a_mismatch : goal.returns-clause-an_unexpected_message_is_a_mismatch
unfolding unfolded
returns-clause-an_unexpected_message_is_a_mismatch c = (refl, refl, refl)

pub returns-clause-a_slot_keeps_its_place : goal.returns-clause-a_slot_keeps_its_place
unfolding unfolded
returns-clause-a_slot_keeps_its_place c = refl

pub returns-clause-a_loop_is_gone_round : goal.returns-clause-a_loop_is_gone_round
unfolding unfolded
returns-clause-a_loop_is_gone_round c = refl

pub returns-clause-a_commit_stands_in_the_way : goal.returns-clause-a_commit_stands_in_the_way
unfolding unfolded
returns-clause-a_commit_stands_in_the_way c = refl

pub returns-clause-the_first_reason_against_an_undo_is_told : goal.returns-clause-the_first_reason_against_an_undo_is_told
unfolding unfolded
returns-clause-the_first_reason_against_an_undo_is_told c = refl

pub returns-clause-a_commit_leaves_the_strangers : goal.returns-clause-a_commit_leaves_the_strangers
unfolding unfolded
returns-clause-a_commit_leaves_the_strangers c = refl

pub returns-clause-what_came_after_a_commit_can_be_undone : goal.returns-clause-what_came_after_a_commit_can_be_undone
unfolding unfolded
returns-clause-what_came_after_a_commit_can_be_undone c = refl

pub returns-clause-a_commit_is_allowed_at_the_end : goal.returns-clause-a_commit_is_allowed_at_the_end
unfolding unfolded
returns-clause-a_commit_is_allowed_at_the_end c = (refl, refl)

pub returns-clause-an_empty_return_is_never_final : goal.returns-clause-an_empty_return_is_never_final
unfolding unfolded
returns-clause-an_empty_return_is_never_final c = refl

pub returns-clause-the_least_commit_is_named : goal.returns-clause-the_least_commit_is_named
unfolding unfolded
returns-clause-the_least_commit_is_named c = refl

pub returns-clause-either_rollback_may_come_first : goal.returns-clause-either_rollback_may_come_first
unfolding unfolded
returns-clause-either_rollback_may_come_first c = (refl, refl, refl, refl)

pub returns-clause-a_detour_leaves_no_trace : goal.returns-clause-a_detour_leaves_no_trace
unfolding unfolded
returns-clause-a_detour_leaves_no_trace c = (refl, refl)

pub returns-clause-strangers_may_change_places : goal.returns-clause-strangers_may_change_places
unfolding unfolded
returns-clause-strangers_may_change_places c = Exchange _ _ [] [] _ _ refl (λ e. absurd (omega arith)) refl (Same _ _ refl)
