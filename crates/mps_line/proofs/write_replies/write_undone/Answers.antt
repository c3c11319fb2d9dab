-- `write_undone` meets its clause `ok`, by the lemmas of Splitting and Writing.
use Rattle.std.proofs.Common.{refl}
use Rattle.std.specs.Prelude.{[], codes}
use Rattle.mps_line.specs.Tokens.{Word}
use Rattle.mps_line.proofs.Splitting.{line_of_one}
use Rattle.mps_line.proofs.Writing.{numbers_after}
use Rattle.mps_line.proofs.write_replies.write_undone.Goals as goal

pub returns-clause-ok : goal.returns-clause-ok
returns-clause-ok c =
    numbers_after _ _ (Word (codes "undone")) [] _ _ _ c.write_ids.ensures.ok (codes "undone", c.in_ok-extend_from_slice.ensures.items, line_of_one [] (codes "undone") (Word (codes "undone")) refl)
