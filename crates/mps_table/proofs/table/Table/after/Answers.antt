-- `Table::after` meets its clauses `next` and `follows`, by the lemmas of Standing.
use Rattle.std.proofs.Common.{arith, rules}
use Rattle.std.proofs.lemmas.Option.{slice_get_read}
use Rattle.mps_table.proofs.Standing.{follows}
use Rattle.mps_table.proofs.table.Table.after.Goals as goal

pub returns-in-None-Send-clause-follows : goal.returns-in-None-Send-clause-follows
returns-in-None-Send-clause-follows c = λ t u. follows _ _ _ _ c.row.result t u c.row.ensures.row (search rules)

pub returns-in-None-Send-2-clause-follows : goal.returns-in-None-Send-2-clause-follows
returns-in-None-Send-2-clause-follows c = λ t u. follows _ _ _ _ c.row.result t u c.row.ensures.row (search rules)

pub returns-in-Some-Select-clause-next : goal.returns-in-Some-Select-clause-next
returns-in-Some-Select-clause-next c = grind (arith, slice_get_read)

pub returns-in-Some-Select-clause-follows : goal.returns-in-Some-Select-clause-follows
returns-in-Some-Select-clause-follows c = λ t u. follows _ _ _ _ c.row.result t u c.row.ensures.row (grind (arith, slice_get_read))
