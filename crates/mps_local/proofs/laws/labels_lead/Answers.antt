-- Proves the law `labels_lead`, clauses `paired`, `lead` and `placed`, by the lemmas of Leading.
use Rattle.mps_local.proofs.Leading.{paired, lead, placed}
use Rattle.mps_local.proofs.laws.labels_lead.Goals as goal

pub returns-clause-paired : goal.returns-clause-paired
returns-clause-paired c = paired

pub returns-clause-lead : goal.returns-clause-lead
returns-clause-lead c = lead

pub returns-clause-placed : goal.returns-clause-placed
returns-clause-placed c = placed
