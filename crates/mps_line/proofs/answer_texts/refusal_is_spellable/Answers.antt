-- `refusal_is_spellable` meets its contract, by the lemmas of Spellings.
use Rattle.std.proofs.Common.{arith}
use Rattle.mps_line.proofs.Spellings.{word, number}
use Rattle.mps_line.proofs.answer_texts.refusal_is_spellable.Goals as goal

pub returns-in-Final : goal.returns-in-Final
returns-in-Final c = rw c.in-Final.is (word _, (word _, (number _ (omega (arith, c.number-number.ensures.number, c.number-number.ensures.small)), tt)))

pub returns-in-Needed : goal.returns-in-Needed
returns-in-Needed c = rw c.in-Needed.is (word _, (word _, (number _ (omega (arith, c.number-number-in-Needed.ensures.number, c.number-number-in-Needed.ensures.small)), tt)))
