-- `split_role` meets its clauses `none` and `rest`, by the lemmas of Splitting.
use Rattle.mps_line.proofs.Splitting.{if_none, same_rest, no_role}
use Rattle.mps_line.proofs.line_parts.split_role.Goals as goal

pub returns-in_err-read_role-clause-none : goal.returns-in_err-read_role-clause-none
returns-in_err-read_role-clause-none c =
    if_none _ (no_role _ _ _ _ c.in_ok-name.ensures.parts c.in_ok-name.ensures.first c.in_err-read_role.ensures.none)

pub returns-clause-rest : goal.returns-clause-rest
returns-clause-rest c = λ role rest b. same_rest _ _ _ _ role rest c.in_ok-name.ensures.parts c.in_ok-name.ensures.first b
