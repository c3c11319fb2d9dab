-- `table_of` meets its clauses `rows`, `labels` and `table`, keeps the invariant of its type, and may call `laid_out`, by the lemmas of Compiled and Sized.
use Rattle.mps_local.specs.Local.{plain}
use Rattle.mps_table.proofs.Compiled.{few_rows, few_labels, draft_sound, draft_stands}
use Rattle.mps_table.proofs.Sized.{draft_rows, draft_labels}
use Rattle.mps_table.proofs.compiling.table_of.Goals as goal

pub laid_out-requires-clause-rows : goal.laid_out-requires-clause-rows
laid_out-requires-clause-rows c = few_rows (plain c.args.tree.now) 256 c.requires.few

pub laid_out-requires-clause-labels : goal.laid_out-requires-clause-labels
laid_out-requires-clause-labels c = few_labels (plain c.args.tree.now) 256 c.requires.few

pub invariant_of-result : goal.invariant_of-result
invariant_of-result c =
    draft_sound c.in_ok-draft.draft c.in_ok-draft.first (plain c.args.tree.now) c.in_ok-draft.ensures c.requires.closed c.requires.guarded

pub returns-clause-rows : goal.returns-clause-rows
returns-clause-rows c =
    draft_rows c.in_ok-draft.draft c.in_ok-draft.first (plain c.args.tree.now) c.in_ok-draft.ensures

pub returns-clause-labels : goal.returns-clause-labels
returns-clause-labels c =
    draft_labels c.in_ok-draft.draft c.in_ok-draft.first (plain c.args.tree.now) c.in_ok-draft.ensures

pub returns-clause-table : goal.returns-clause-table
returns-clause-table c =
    draft_stands c.in_ok-draft.draft c.in_ok-draft.first (plain c.args.tree.now) c.in_ok-draft.ensures c.requires.closed c.requires.guarded
