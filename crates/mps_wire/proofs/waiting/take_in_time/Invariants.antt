-- In each turn of the loop of `take_in_time` the line was replied to so many times that there is nothing yet.
use Rattle.std.proofs.Common.{◌≡◌, ℕ}
use Rattle.mps_wire.specs.Conversations.{LooksInVain}
use Rattle.mps_wire.proofs.waiting.take_in_time.Given as goal

abbrev pub invariant-loop : goal.invariant-loop
invariant-loop g l = record {
  waits : g.V.Vigil.waits l.vigil ≡ g.V.Vigil.waits l.fn.vigil;
  looks : (n : ℕ) × LooksInVain g.C.Caller l.line n l.fn.caller l.caller;
}
