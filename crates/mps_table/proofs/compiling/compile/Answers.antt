-- `compile` meets its clause `projected` and may call `table_of`.
use Rattle.std.proofs.Common.{sym, ◌∙◌}
use Rattle.mps_local.specs.Local.{plain}
use Rattle.mps_local.proofs.Faultless.{faultless, fine_so}
use Rattle.mps_table.proofs.compiling.compile.Goals as goal

pub table_of-requires-clause-closed : goal.table_of-requires-clause-closed
table_of-requires-clause-closed c = (fine_so (plain c.args.tree.now) (sym c.in-None.ensures)).closed

pub table_of-requires-clause-guarded : goal.table_of-requires-clause-guarded
table_of-requires-clause-guarded c = (fine_so (plain c.args.tree.now) (sym c.in-None.ensures)).guarded

pub returns-in-Some-clause-projected : goal.returns-in-Some-clause-projected
returns-in-Some-clause-projected c merging roles role protocol none e =
    let no_fault = c.in-Some.ensures ∙ faultless merging roles role protocol (plain c.args.tree.now) none e in
    absurd cc
