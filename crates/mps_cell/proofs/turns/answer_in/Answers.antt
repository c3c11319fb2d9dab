-- `answer_in` may call `slot_mut`, by the lemmas of Taking.
use Rattle.mps_cell.proofs.Taking.{room_taken}
use Rattle.mps_cell.proofs.turns.answer_in.Goals as goal

pub slot_mut-room-requires : goal.slot_mut-room-requires
slot_mut-room-requires c = (c.requires.cell, room_taken _ c.requires.room)
