-- Proves the law `an_undo_gives_the_old_history`, by the lemmas of Undoing.
use Rattle.mps_machine.proofs.Undoing.{undoes_steps}
use Rattle.mps_machine.proofs.laws.an_undo_gives_the_old_history.Goals as goal

pub returns : goal.returns
returns c = undoes_steps
