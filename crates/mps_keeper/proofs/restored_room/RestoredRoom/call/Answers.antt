-- `RestoredRoom::call` meets its clause `ok`, by the lemmas of Restoring.
use Rattle.std.proofs.Common.{ap, refl, ◌∙◌}
use Rattle.mps_room.specs.RoomState.{RoomState}
use Rattle.mps_keeper.proofs.Restoring.{called}
use Rattle.mps_keeper.proofs.restored_room.RestoredRoom.call.Goals as goal

pub returns-clause-ok : goal.returns-clause-ok
returns-clause-ok c =
    called _ _ _ _ _ _ _ c.apply-answer.result c.requires c.apply-answer.ensures.answer c.in_ok-of_answer.ensures.accepted (c.if-not-is_next.ensures.0 refl)
    (ap (λ (m : RoomState). m.journal) c.keep.ensures.room ∙ c.apply-answer.ensures.journal) c.keep.ensures.kept
