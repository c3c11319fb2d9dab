-- `pass_has_text` meets its clause `text`, by the lemmas of Spellings.
use Rattle.std.proofs.Common.{arith}
use Rattle.mps_line.proofs.Spellings.{line, word, number, called}
use Rattle.mps_line.proofs.answer_texts.pass_has_text.Goals as goal

pub returns-clause-text : goal.returns-clause-text
returns-clause-text c = line _ (word _, (number c.args.session (omega arith), (called _ c.as_bytes-name.ensures.name, tt)))
