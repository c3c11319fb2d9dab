-- `keep` meets its clause `ok`, by the lemmas of Splitting.
use Rattle.std.proofs.Common.{arith}
use Rattle.mps_lines.proofs.Splitting.{front_fits, on_ok_items}
use Rattle.mps_lines.proofs.split.keep.Goals as goal

pub returns-clause-ok : goal.returns-clause-ok
returns-clause-ok c = grind (arith, on_ok_items, front_fits)
