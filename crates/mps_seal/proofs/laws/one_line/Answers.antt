-- `one_line` holds, by the lemma `one` of Sealing.
use Rattle.mps_seal.proofs.Sealing.{one}
use Rattle.mps_seal.proofs.laws.one_line.Goals as goal

pub returns : goal.returns
returns c = one
