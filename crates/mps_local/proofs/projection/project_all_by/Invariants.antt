-- In each turn of the loop of `project_all_by` each role so far has its projection, in order, and it names roles of the protocol alone.
use Rattle.std.proofs.Common.{◌≡◌, ◌<◌, ◌≤◌, ℕ, length, map, slice_get}
use Rattle.std.specs.List.{AllByRecursion}
use Rattle.mps_global.specs.Global.{plain as global_type}
use Rattle.mps_local.specs.Local.{plain}
use Rattle.mps_local.specs.Projection.{projection}
use Rattle.mps_local.specs.Shape.{AllPeers}
use Rattle.mps_local.proofs.projection.project_all_by.Given as goal

abbrev pub invariant-loop-place : goal.invariant-loop-place
invariant-loop-place l = record {
  count : length l.types.items ≡ l.place;
  within : l.place ≤ length l.protocol.roles.items;
  each : (p : ℕ) → p < l.place → projection l.merging l.protocol.roles.items p (global_type l.protocol.body) ≡ slice_get (map plain l.types.items) p;
  peers : AllByRecursion (AllPeers (λ peer. peer < length l.protocol.roles.items)) (map plain l.types.items);
}
