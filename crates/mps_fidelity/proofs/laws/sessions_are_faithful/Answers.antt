-- Proves the law `sessions_are_faithful`, clauses `replayed`, `sound` and `always`, by the lemmas of Faithful.
use Rattle.mps_fidelity.proofs.Faithful.{faithful, sound_faithful, always_faithful}
use Rattle.mps_fidelity.proofs.laws.sessions_are_faithful.Goals as goal

pub returns-clause-replayed : goal.returns-clause-replayed
returns-clause-replayed c = faithful

pub returns-clause-sound : goal.returns-clause-sound
returns-clause-sound c = sound_faithful

pub returns-clause-always : goal.returns-clause-always
returns-clause-always c = always_faithful
