-- Proves the law `equal_views_are_swaps`, by the lemmas of Swapping.
use Rattle.mps_machine.proofs.Swapping.{one_view_by_swaps, swaps_keep, swaps_lead_to_one_view}
use Rattle.mps_machine.proofs.swaps.equal_views_are_swaps.Goals as goal

pub returns : goal.returns
returns c = record {
  swapped = one_view_by_swaps;
  equal = swaps_lead_to_one_view;
  kept = λ types k h v e swaps. swaps_keep types v e swaps;
}
