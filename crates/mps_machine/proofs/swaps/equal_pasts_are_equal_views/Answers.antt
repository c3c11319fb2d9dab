-- Proves the law `equal_pasts_are_equal_views`, by the lemmas of Swapping.
use Rattle.std.proofs.Common.{ap}
use Rattle.mps_machine.specs.View.{View}
use Rattle.mps_machine.proofs.Swapping.{past_of, one_past_is_one_view}
use Rattle.mps_machine.proofs.swaps.equal_pasts_are_equal_views.Goals as goal

pub returns : goal.returns
returns c = record {
  views = one_past_is_one_view;
  pasts = λ v w p same. ap (λ (u : View). past_of u p) same;
}
