-- Proves the law `written_spaced`, clauses `parts` and `spaced`, by the lemmas of Spaced.
use Rattle.mps_base.proofs.Spaced.{written_parts, written_all}
use Rattle.mps_base.proofs.spacing.written_spaced.Goals as goal

pub returns-clause-parts : goal.returns-clause-parts
returns-clause-parts c = written_parts

pub returns-clause-spaced : goal.returns-clause-spaced
returns-clause-spaced c = written_all
