-- Proves the law `a_numbered_command_has_one_outcome`, by the lemmas of OneAnswer.
use Rattle.mps_room.proofs.OneAnswer.{one_outcome}
use Rattle.mps_room.proofs.laws.a_numbered_command_has_one_outcome.Goals as goal

pub returns : goal.returns
returns c start caller n command d e told other =
    one_outcome c.C.Caller.calls c.C.Caller.last c.C.Caller.kept caller n command d e told other
