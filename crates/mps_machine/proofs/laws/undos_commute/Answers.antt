-- Proves the law `undos_commute`: two undos come in either order.
use Rattle.mps_machine.proofs.Undos.{undos_commute}
use Rattle.mps_machine.proofs.laws.undos_commute.Goals as goal

pub returns : goal.returns
returns c = undos_commute
