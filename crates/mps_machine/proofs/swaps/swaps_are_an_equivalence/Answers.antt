-- Proves the law `swaps_are_an_equivalence`, by the lemmas of Traces.
use Rattle.std.proofs.Common.{refl}
use Rattle.mps_history.specs.Swaps.{Same}
use Rattle.mps_machine.proofs.Traces.{swaps_back, swaps_on}
use Rattle.mps_machine.proofs.swaps.swaps_are_an_equivalence.Goals as goal

pub returns : goal.returns
returns c = record {
  reflexive = λ h. Same h h refl;
  symmetric = swaps_back;
  transitive = swaps_on;
}
