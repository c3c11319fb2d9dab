-- Proves the law `a_text_has_one_protocol`, by the lemma of OneProtocol.
use Rattle.mps_open.proofs.OneProtocol.{one_protocol}
use Rattle.mps_open.proofs.laws.a_text_has_one_protocol.Goals as goal

pub returns : goal.returns
returns c = one_protocol
