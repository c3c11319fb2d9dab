-- `Cell::open_numbered` meets its clause `opening`, by the lemmas of Dealing.
use Rattle.std.proofs.Common.{◌∙◌}
use Rattle.mps_cell.proofs.Dealing.{opened_new}
use Rattle.mps_cell.proofs.cell.Cell.open_numbered.Goals as goal

pub returns-clause-opening : goal.returns-clause-opening
returns-clause-opening c = opened_new c.open_with.result _ _ _ _ _ c.open_with.ensures.opening c.open-room.ensures c.in_ok-numbers.ensures.none (c.in_ok-numbers.ensures.count ∙ c.count.ensures.count ∙ c.requires.count)
