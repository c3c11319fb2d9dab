-- In each turn of the loop of `choice` the branches so far name the roles at the places 0 and 1 alone.
use Rattle.std.proofs.Common.{◌<◌}
use Rattle.mps_local.specs.Local.{plain_branches}
use Rattle.mps_local.specs.Shape.{AllBranchPeers}
use Rattle.mps_test_texts.proofs.projections.choice.Given as goal

abbrev pub invariant-loop : goal.invariant-loop
invariant-loop g l = AllBranchPeers (λ peer. peer < 2) (plain_branches l.branches)
