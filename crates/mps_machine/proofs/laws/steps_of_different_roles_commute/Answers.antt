-- Proves the law `steps_of_different_roles_commute`: steps of two roles come in either order.
use Rattle.mps_machine.proofs.Commuting.{square}
use Rattle.mps_machine.proofs.laws.steps_of_different_roles_commute.Goals as goal

pub returns : goal.returns
returns c = square
