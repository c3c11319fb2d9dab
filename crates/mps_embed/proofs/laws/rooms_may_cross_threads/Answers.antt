-- Proves the law `rooms_may_cross_threads`, by the lemmas of Crossing.
use Rattle.mps_embed.proofs.Crossing.{file_room_send}
use Rattle.mps_embed.proofs.laws.rooms_may_cross_threads.Goals as goal

pub returns : goal.returns
returns c = record { room = file_room_send }
