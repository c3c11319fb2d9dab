-- In each turn of the loop of `Local::names_others` the type names other roles alone where its part that is looked at and the branches that wait do.
use Rattle.std.proofs.Common.{◌+◌, ◌↔◌}
use Rattle.mps_local.specs.Local.{plain, plain_branches}
use Rattle.mps_local.specs.Shape.{AllPeers, AllBranchPeers, IsOtherRole}
use Rattle.mps_local.specs.Private.Weights.{weight, waiting_weight}
use Rattle.mps_local.proofs.Local.names_others.Given as goal

abbrev pub invariant-loop-self : goal.invariant-loop-self
invariant-loop-self l =
    let P = IsOtherRole l.count l.role in
    AllPeers P (plain l.fn.self) ↔ (AllPeers P (plain l.self) × AllBranchPeers P (plain_branches l.waiting))

abbrev pub decreases-loop-self : goal.decreases-loop-self
decreases-loop-self l = weight l.self + waiting_weight l.waiting
