-- Proves the law `nodes_lead`, clauses `node`, `next` and `heads`, by the lemmas of Standing.
use Rattle.mps_local.specs.Unfolding.{unfolded}
use Rattle.mps_table.proofs.Standing.{node_stands, next_stands, head_begins}
use Rattle.mps_table.proofs.laws.nodes_lead.Goals as goal

pub returns-clause-node : goal.returns-clause-node
returns-clause-node c = node_stands

pub returns-clause-next : goal.returns-clause-next
returns-clause-next c = next_stands

pub returns-clause-heads : goal.returns-clause-heads
returns-clause-heads c = λ h t b. head_begins h (unfolded t) b
