-- Proves the law `a_shown_text_is_one_line`, clauses `begins`, `stand_begins` and `shown`, by the lemmas of Plain.
use Rattle.std.proofs.Common.{refl}
use Rattle.mps_show.proofs.Plain.{text_is_shown}
use Rattle.mps_show.proofs.laws.a_shown_text_is_one_line.Goals as goal

pub returns-clause-begins : goal.returns-clause-begins
returns-clause-begins c = λ names types h. refl

pub returns-clause-stand_begins : goal.returns-clause-stand_begins
returns-clause-stand_begins c = λ names types h p. refl

pub returns-clause-shown : goal.returns-clause-shown
returns-clause-shown c = text_is_shown
