-- Proves the law `one_protocol`, by the lemmas of OneTree.
use Rattle.mps_text.proofs.OneTree.{one_protocol as one}
use Rattle.mps_text.proofs.reading.one_protocol.Goals as goal

pub returns : goal.returns
returns c = one
