-- `Hub::of_numbered` meets its clause `cells`, by the lemmas of Cells.
use Rattle.mps_hub.proofs.Cells.{hub_of_new}
use Rattle.mps_hub.proofs.sessions.Hub.of_numbered.Goals as goal

pub returns-clause-cells : goal.returns-clause-cells
returns-clause-cells c = hub_of_new c.of_restored.result c.args.names.now c.args.first c.args.sessions.items _ c.in_ok-rooms.ensures c.of_restored.ensures.cells
