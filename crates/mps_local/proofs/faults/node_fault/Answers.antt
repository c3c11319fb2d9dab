-- `node_fault` meets its contract.
use Rattle.mps_local.proofs.faults.node_fault.Goals as goal

pub returns-in-Rec : goal.returns-in-Rec
returns-in-Rec c = rw c.in-Rec.is c.rec_fault.ensures
