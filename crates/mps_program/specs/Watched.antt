-- What a clause reads of a script that is watched.
use Rattle.mps_program.specs.declared.watched.Watched.{Watched}

-- the source that is read
abbrev pub source_of : {E S : Type 0} → Watched E S → S
source_of w = w.source
