-- Proves the law `one_split`, clauses `split` and `only`, by the lemmas of Cutting.
use Rattle.mps_lines.proofs.Cutting.{cut_splits, cut_is}
use Rattle.mps_lines.proofs.laws.one_split.Goals as goal

pub returns-clause-split : goal.returns-clause-split
returns-clause-split c = cut_splits

pub returns-clause-only : goal.returns-clause-only
returns-clause-only c = cut_is
