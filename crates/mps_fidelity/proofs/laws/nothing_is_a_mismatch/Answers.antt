-- Proves the law `nothing_is_a_mismatch`, clauses `violation`, `served` and `always`, by the lemmas of Faithful and Refusals.
use Rattle.mps_fidelity.proofs.Faithful.{faithful}
use Rattle.mps_fidelity.proofs.Refusals.{no_mismatch, sound_other, always_other}
use Rattle.mps_fidelity.proofs.laws.nothing_is_a_mismatch.Goals as goal

pub returns-clause-violation : goal.returns-clause-violation
returns-clause-violation c types h v p act own e = no_mismatch v (faithful types h v own e) p act

pub returns-clause-served : goal.returns-clause-served
returns-clause-served c = sound_other

pub returns-clause-always : goal.returns-clause-always
returns-clause-always c = always_other
