-- Proves the law `a_shown_value_has_one_text`, clauses `no_float` and `text`, by the lemmas of Floats.
use Rattle.std.proofs.Common.{ap}
use Rattle.mps_show.proofs.Floats.{no_float}
use Rattle.serde_json.specs.Written.{compact_text}
use Rattle.mps_show.proofs.laws.a_shown_value_has_one_text.Goals as goal

pub returns-clause-no_float : goal.returns-clause-no_float
returns-clause-no_float c = no_float

pub returns-clause-text : goal.returns-clause-text
returns-clause-text c = λ names types h v is. ap compact_text is
