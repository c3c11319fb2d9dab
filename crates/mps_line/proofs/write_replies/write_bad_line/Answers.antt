-- `write_bad_line` meets its clause `ok`, by the lemmas of Writing.
use Rattle.std.specs.Prelude.{codes}
use Rattle.mps_base.proofs.Numbers.{appends_ok}
use Rattle.mps_line.proofs.Writing.{bad_line}
use Rattle.mps_line.proofs.write_replies.write_bad_line.Goals as goal

pub returns-clause-ok : goal.returns-clause-ok
returns-clause-ok c =
    appends_ok _ _ _ (codes "refused line") _ c.extend_from_slice.ensures.items bad_line
