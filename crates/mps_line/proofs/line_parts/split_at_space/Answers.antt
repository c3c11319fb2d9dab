-- `split_at_space` meets its clause `none`, by the lemmas of Splitting.
use Rattle.mps_line.proofs.Splitting.{if_none, never_spaced}
use Rattle.mps_line.proofs.line_parts.split_at_space.Goals as goal

pub returns-in_err-place-clause-none : goal.returns-in_err-place-clause-none
returns-in_err-place-clause-none c = if_none _ (never_spaced _ c.in_err-place.ensures.none)
