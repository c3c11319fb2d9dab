-- Proves the law `protocol_or_fault`, by the lemmas of Read.
use Rattle.mps_text.proofs.Read.{protocol_or_fault as either}
use Rattle.mps_text.proofs.reading.protocol_or_fault.Goals as goal

pub returns : goal.returns
returns c = either
