-- In each turn of the loop of `sends` the type so far names the roles at the places 0 and 1 alone.
use Rattle.std.proofs.Common.{◌<◌}
use Rattle.mps_local.specs.Local.{plain}
use Rattle.mps_local.specs.Shape.{AllPeers}
use Rattle.mps_test_texts.proofs.projections.sends.Given as goal

abbrev pub invariant-loop : goal.invariant-loop
invariant-loop g l = AllPeers (λ peer. peer < 2) (plain l.tree)
