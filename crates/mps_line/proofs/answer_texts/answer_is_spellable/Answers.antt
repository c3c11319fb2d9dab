-- `answer_is_spellable` meets its contract, by the lemmas of Spellings.
use Rattle.mps_line.proofs.Spellings.{word, number, numbers}
use Rattle.mps_line.proofs.answer_texts.answer_is_spellable.Goals as goal

pub returns-in-Undone : goal.returns-in-Undone
returns-in-Undone c = rw c.in-Undone.is (word _, numbers _ (rw c.as_slice.ensures at c.ids_are_small.ensures))

pub returns-in-News : goal.returns-in-News
returns-in-News c = rw c.in-News.is (word _, (number _ c.count_is_small.ensures, numbers _ (rw c.as_slice-in-News.ensures at c.ids_are_small-in-News.ensures)))
