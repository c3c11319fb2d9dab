-- `worked_replies` meets its clauses `a_number_is_answered_once` and `a_number_has_one_reply`, by the lemmas of Replying.
use Rattle.std.proofs.Common.{refl, sym, ◌∙◌}
use Rattle.mps_room.specs.Examples.{plain_caller}
use Rattle.mps_room.specs.declared.numbers.Told.TheVariants.{Fresh, Kept, Wrong, Refused}
use Rattle.mps_command.specs.declared.answer.Refusal.TheVariants.{NoStep}
use Rattle.mps_wire.proofs.Replying.{reply_of, told_as}
use Rattle.mps_wire.proofs.examples.worked_replies.Goals as goal

pub returns-clause-a_number_is_answered_once : goal.returns-clause-a_number_is_answered_once
returns-clause-a_number_is_answered_once c =
    let rows = c.worked_journals.ensures.a_number_is_called_once in (
      (Wrong, rows.0, refl),
      (Fresh, rows.1, (_, refl, refl)),
      (Kept, rows.2, (_, refl, refl)),
      (Wrong, rows.3, refl),
      (Fresh, rows.4, (_, refl, refl)),
      (Wrong, rows.5, refl),
      (Wrong, rows.6, refl),
      (Kept, rows.7, (_, refl, refl)),
      (_, rows.8, refl, refl, refl),
      (Refused NoStep, rows.9, refl),
      (Fresh, rows.10, (_, refl, refl)),
      (Kept, rows.11, (_, refl, refl)),
    )

pub returns-clause-a_number_has_one_reply : goal.returns-clause-a_number_has_one_reply
returns-clause-a_number_has_one_reply c x n command y z reply other p q =
    let same = c.worked_journals.ensures.a_number_is_told_one_thing x n command y z p.0 q.0 p.1 q.1 in
    told_as plain_caller y p.0 reply p.2
    ∙ (λ i. reply_of (same.0 i) (plain_caller.kept (same.1 i)))
    ∙ sym (told_as plain_caller z q.0 other q.2)
