-- In each turn of the loop of `end_lines` the lines that are left come after those that were sealed.
use Rattle.std.proofs.Common.{◌≡◌, ◌++◌, length}
use Rattle.std.specs.List.{flat_map}
use Rattle.mps_lines.specs.Lines.{ended}
use Rattle.mps_lines.specs.Cuts.{cut}
use Rattle.mps_seal.specs.Seals.{all_sealed, seal_after}
use Rattle.mps_keeper.proofs.sealing.end_lines.Given as goal

abbrev pub invariant-loop-k : goal.invariant-loop-k
invariant-loop-k l = record {
  text : l.out.items ++ flat_map ended (all_sealed l.seal (cut l.rest).lines) ≡ l.fn.out.items ++ flat_map ended (all_sealed l.fn.before (cut l.fn.text).lines);
  last : seal_after l.seal (cut l.rest).lines ≡ seal_after l.fn.before (cut l.fn.text).lines;
}

abbrev pub decreases-loop-k : goal.decreases-loop-k
decreases-loop-k l = length l.rest
