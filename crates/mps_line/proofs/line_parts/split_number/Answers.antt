-- `split_number` meets its clause `none`, by the lemmas of Splitting and NumberedLines.
use Rattle.mps_line.proofs.Splitting.{if_none}
use Rattle.mps_line.proofs.NumberedLines.{no_number}
use Rattle.mps_line.proofs.line_parts.split_number.Goals as goal

pub returns-in_err-read_count-clause-none : goal.returns-in_err-read_count-clause-none
returns-in_err-read_count-clause-none c =
    if_none _ (no_number _ _ _ c.in_ok-digits.ensures.parts c.in_ok-digits.ensures.first c.in_err-read_count.ensures.none)
