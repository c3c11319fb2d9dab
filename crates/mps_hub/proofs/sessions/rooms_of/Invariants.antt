-- In each turn of the loop of `rooms_of` each session so far has its room, in order.
use Rattle.std.proofs.Common.{◌≡◌, ◌+◌, ◌≤◌, ◌++◌, length, vec_capacity}
use Rattle.std.specs.Vec.Iter.{into_iter_items}
use Rattle.mps_hub.specs.Halls.{AreRoomsOf}
use Rattle.mps_hub.proofs.sessions.rooms_of.Given as goal

abbrev pub invariant-loop-session : goal.invariant-loop-session
invariant-loop-session l = record {
  whole : l.fn.sessions.items ≡ l.yielded ++ into_iter_items l.session-iterator;
  rooms : AreRoomsOf l.names l.yielded l.rooms.items;
  space : length l.rooms.items + length (into_iter_items l.session-iterator) ≤ vec_capacity l.rooms;
}
