-- Proves the law `a_state_is_its_replay`, by the lemmas of Undoing.
use Rattle.mps_machine.proofs.Undoing.{is_replayed}
use Rattle.mps_machine.proofs.laws.a_state_is_its_replay.Goals as goal

pub returns : goal.returns
returns c = is_replayed
