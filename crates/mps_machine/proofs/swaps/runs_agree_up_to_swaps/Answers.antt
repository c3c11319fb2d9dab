-- Proves the law `runs_agree_up_to_swaps`, by the lemmas of Traces.
use Rattle.mps_machine.proofs.Traces.{runs_agree, states_agree}
use Rattle.mps_machine.proofs.swaps.runs_agree_up_to_swaps.Goals as goal

pub returns : goal.returns
returns c = record { runs = runs_agree; states = states_agree }
