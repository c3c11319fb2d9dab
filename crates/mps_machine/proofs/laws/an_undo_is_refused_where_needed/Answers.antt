-- Proves the law `an_undo_is_refused_where_needed`, by the lemmas of Undoing.
use Rattle.mps_machine.proofs.Undoing.{refuses_needed}
use Rattle.mps_machine.proofs.laws.an_undo_is_refused_where_needed.Goals as goal

pub returns : goal.returns
returns c = refuses_needed
