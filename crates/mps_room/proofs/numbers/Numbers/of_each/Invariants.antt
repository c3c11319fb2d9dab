-- In each turn of the loop of `Numbers::of_each` each caller so far had no command with a number accepted.
use Rattle.std.proofs.Common.{◌≡◌, ◌≤◌, vec_len, vec_capacity, None}
use Rattle.std.specs.Prelude.{All}
use Rattle.mps_room.proofs.numbers.Numbers.of_each.Given as goal

abbrev pub invariant-loop : goal.invariant-loop
invariant-loop l = record {
  count : vec_len l.each ≡ l.counter;
  space : l.callers ≤ vec_capacity l.each;
  none : All (λ n. n.newest ≡ None) l.each.items;
}
