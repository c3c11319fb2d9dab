-- In each turn of the loop of `Hub::of_restored` each room so far has its cell and its deal, in order.
use Rattle.std.proofs.Common.{◌≡◌, ◌+◌, ◌≤◌, ◌++◌, length, vec_capacity}
use Rattle.std.specs.Vec.Iter.{into_iter_items}
use Rattle.mps_hub.specs.Halls.{AreCellsAround, AreDeals}
use Rattle.mps_hub.proofs.sessions.Hub.of_restored.Given as goal

abbrev pub invariant-loop-room : goal.invariant-loop-room
invariant-loop-room l = record {
  whole : l.fn.rooms.items ≡ l.yielded ++ into_iter_items l.room-iterator;
  cells : AreCellsAround l.first l.yielded l.cells.items;
  deals : AreDeals l.cells.items l.deals.items;
  cells_room : length l.cells.items + length (into_iter_items l.room-iterator) ≤ vec_capacity l.cells;
  deals_room : length l.deals.items + length (into_iter_items l.room-iterator) ≤ vec_capacity l.deals;
}
