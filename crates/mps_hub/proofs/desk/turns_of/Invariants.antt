-- In each turn of the loop of `turns_of` there are as many turns as turns were made.
use Rattle.std.proofs.Common.{◌≡◌, ◌≤◌, vec_len, vec_capacity}
use Rattle.mps_hub.proofs.desk.turns_of.Given as goal

abbrev pub invariant-loop : goal.invariant-loop
invariant-loop l = record {
  count : vec_len l.turns ≡ l.counter;
  space : l.sessions ≤ vec_capacity l.turns;
}
