-- Proves the law `sealed_lines_are_read`, clauses `lines` and `chain`, by the lemmas of Sealed.
use Rattle.mps_keeper.proofs.Sealed.{read_again}
use Rattle.mps_keeper.proofs.laws.sealed_lines_are_read.Goals as goal

pub returns-clause-lines : goal.returns-clause-lines
returns-clause-lines c = λ seal lines bodies after h. (read_again c.one_line.ensures seal lines bodies after h).0

pub returns-clause-chain : goal.returns-clause-chain
returns-clause-chain c = λ seal lines bodies after h. (read_again c.one_line.ensures seal lines bodies after h).1
