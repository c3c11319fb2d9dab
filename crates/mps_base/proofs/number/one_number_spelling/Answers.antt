-- Proves the law `one_number_spelling`, clause `spelling`, by the lemmas of Numbers.
use Rattle.mps_base.proofs.Numbers.{same_number_text}
use Rattle.mps_base.proofs.number.one_number_spelling.Goals as goal

pub returns-clause-spelling : goal.returns-clause-spelling
returns-clause-spelling c = same_number_text
