-- Proves the law `worked_states`, all of its clauses.
use Rattle.std.proofs.Common.{refl}
use Rattle.std.specs.Fmt.{digits}
use Rattle.mps_local.specs.Unfolding.{unfolded}
use Rattle.serde_json.proofs.OnLiterals.{serde_json_on_literals}
use Rattle.mps_show.proofs.examples.worked_states.Goals as goal

pub returns-clause-a_message_that_waits_is_shown : goal.returns-clause-a_message_that_waits_is_shown
unfolding unfolded serde_json_on_literals digits
returns-clause-a_message_that_waits_is_shown c = refl

pub returns-clause-a_received_message_is_shown : goal.returns-clause-a_received_message_is_shown
unfolding unfolded serde_json_on_literals digits
returns-clause-a_received_message_is_shown c = refl

pub returns-clause-a_label_that_waits_is_shown : goal.returns-clause-a_label_that_waits_is_shown
unfolding unfolded serde_json_on_literals digits
returns-clause-a_label_that_waits_is_shown c = refl

pub returns-clause-a_role_is_told_how_it_stands : goal.returns-clause-a_role_is_told_how_it_stands
unfolding unfolded serde_json_on_literals digits
returns-clause-a_role_is_told_how_it_stands c = (refl, refl, refl)

pub returns-clause-a_role_without_steps_is_told : goal.returns-clause-a_role_without_steps_is_told
unfolding unfolded serde_json_on_literals digits
returns-clause-a_role_without_steps_is_told c = refl
