-- `Table::expect` meets its clauses `begins` and `next`, by the lemmas of Standing.
use Rattle.mps_table.proofs.Standing.{shown_begins, next_allowed}
use Rattle.mps_table.specs.Expects.{head_of}
use Rattle.mps_table.proofs.table.Table.expect.Goals as goal

pub returns-clause-begins : goal.returns-clause-begins
returns-clause-begins c =
    λ t stands. shown_begins c.args.self.now c.args.node c.row.result (head_of c.shown.result) t c.row.ensures.row c.shown.ensures stands

pub returns-clause-next : goal.returns-clause-next
returns-clause-next c =
    λ choice may. next_allowed c.args.self.now c.args.node c.row.result (head_of c.shown.result) choice c.row.ensures.row c.shown.ensures may
