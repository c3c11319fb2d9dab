-- Proves the law `first_tokens`, by the lemmas of Parts.
use Rattle.mps_text.proofs.Parts.{begun_protocol}
use Rattle.mps_text.proofs.reading.first_tokens.Goals as goal

pub returns : goal.returns
returns c = begun_protocol
