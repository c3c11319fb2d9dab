-- What each turn of the loop of `copy_all` keeps: the copies of the types so far, and space for the others.
use Rattle.std.proofs.Common.{◌≡◌, ◌≤◌, length, vec_len, vec_capacity}
use Rattle.std.specs.Prelude.{map, take}
use Rattle.mps_local.specs.Local.{plain}
use Rattle.mps_local.proofs.copying.copy_all.Given as goal

abbrev pub invariant-loop-t : goal.invariant-loop-t
invariant-loop-t l = record {
  made : map plain l.made.items ≡ map plain (take l.t-index l.types);
  count : vec_len l.made ≡ l.t-index;
  space : length l.types ≤ vec_capacity l.made;
}
