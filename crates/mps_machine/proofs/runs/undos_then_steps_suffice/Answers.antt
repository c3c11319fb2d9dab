-- Proves the law `undos_then_steps_suffice`, the parabolic lemma.
use Rattle.mps_machine.proofs.BackAndForth.{from_the_start, from_anywhere}
use Rattle.mps_machine.proofs.runs.undos_then_steps_suffice.Goals as goal

pub returns : goal.returns
returns c = record { from_the_start = from_the_start; from_anywhere = from_anywhere }
