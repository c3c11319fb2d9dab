-- In each turn of the loop of `rooms_of` each room so far is a new one with the opening's roles and types.
use Rattle.std.proofs.Common.{◌≡◌, ◌≤◌, vec_len, vec_capacity}
use Rattle.std.specs.Prelude.{All, map}
use Rattle.mps_local.specs.Local.{plain}
use Rattle.mps_file.specs.Rooms.{IsNewRoom}
use Rattle.mps_program.proofs.rooms.rooms_of.Given as goal

abbrev pub invariant-loop : goal.invariant-loop
invariant-loop l = record {
  count : vec_len l.rooms ≡ l.counter;
  space : l.sessions ≤ vec_capacity l.rooms;
  new : All (IsNewRoom l.fn.opening.roles (map plain l.fn.opening.types.items)) l.rooms.items;
}
