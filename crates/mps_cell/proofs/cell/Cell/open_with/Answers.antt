-- `Cell::open_with` may call `new`, by the lemmas of Keeping.
use Rattle.mps_cell.proofs.Keeping.{opens_with}
use Rattle.mps_cell.proofs.cell.Cell.open_with.Goals as goal

pub new-requires : goal.new-requires
new-requires c = opens_with c.args.room _ _ c.args.number _ _ _ c.entries-begun.ensures.legal c.entries-begun.ensures.count c.of.ensures c.push_reserved.ensures.items c.in_ok-slots.ensures.items
