-- `put_in` meets its clause `text`, by the lemmas of Texts.
use Rattle.std.proofs.Common.{append_assoc, rules}
use Rattle.mps_show.proofs.Texts.{words_stand}
use Rattle.mps_show.proofs.text_parts.put_in.Goals as goal

pub returns-clause-text : goal.returns-clause-text
returns-clause-text c = search (rules, append_assoc, words_stand)
