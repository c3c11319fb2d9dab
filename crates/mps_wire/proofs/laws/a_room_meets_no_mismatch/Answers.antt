-- Proves the law `a_room_meets_no_mismatch`, by the lemma of Faithful.
use Rattle.mps_wire.proofs.Faithful.{solo_meets}
use Rattle.mps_wire.proofs.laws.a_room_meets_no_mismatch.Goals as goal

pub returns : goal.returns
returns c = solo_meets
