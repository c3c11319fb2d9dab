-- Proves the law `protocol_laws`, clauses `roles` and `limits`, by the lemmas of Sound.
use Rattle.mps_global.proofs.Sound.{sound_protocol}
use Rattle.mps_global.proofs.faults.protocol_laws.Goals as goal

pub returns-clause-roles : goal.returns-clause-roles
returns-clause-roles c = λ roles tree h. (sound_protocol roles tree h).session

pub returns-clause-limits : goal.returns-clause-limits
returns-clause-limits c =
    λ roles tree h. let s = sound_protocol roles tree h in (s.small, s.shallow)
