-- Proves the law `queues_are_half_duplex`, clauses `replayed`, `sound` and `always`, by the lemmas of Faithful.
use Rattle.mps_fidelity.proofs.Faithful.{half_duplex, sound_half_duplex, always_half_duplex}
use Rattle.mps_fidelity.proofs.laws.queues_are_half_duplex.Goals as goal

pub returns-clause-replayed : goal.returns-clause-replayed
returns-clause-replayed c = half_duplex

pub returns-clause-sound : goal.returns-clause-sound
returns-clause-sound c = sound_half_duplex

pub returns-clause-always : goal.returns-clause-always
returns-clause-always c = always_half_duplex
