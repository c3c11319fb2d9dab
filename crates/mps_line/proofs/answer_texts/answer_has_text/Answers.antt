-- `answer_has_text` meets its clause `text`, by the lemmas of Spellings.
use Rattle.mps_line.proofs.Spellings.{line}
use Rattle.mps_line.proofs.answer_texts.answer_has_text.Goals as goal

pub returns-clause-text : goal.returns-clause-text
returns-clause-text c = line _ c.answer_is_spellable.ensures
