-- Proves the law `written_reads`, by the lemmas of Written.
use Rattle.mps_text.proofs.Written.{written_reads as reads}
use Rattle.mps_text.proofs.writing.written_reads.Goals as goal

pub returns : goal.returns
returns c = reads
