-- Proves the law `no_call_is_a_mismatch`, by the lemmas of Faithful.
use Rattle.mps_cell.proofs.Faithful.{call_other}
use Rattle.mps_cell.proofs.laws.no_call_is_a_mismatch.Goals as goal

pub returns : goal.returns
returns c = record { other = call_other }
