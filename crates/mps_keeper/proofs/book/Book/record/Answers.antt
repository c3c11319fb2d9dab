-- `Book::record` meets its clause `recorded`, by the lemmas of Sealed.
use Rattle.std.proofs.Common.{◌∙◌}
use Rattle.mps_keeper.proofs.Sealed.{recorded}
use Rattle.mps_keeper.proofs.book.Book.record.Goals as goal

pub returns-clause-recorded : goal.returns-clause-recorded
returns-clause-recorded g c = recorded c.append.result _ _ _ _ _ _ _ c.append.ensures.taken c.append.ensures.seal (c.as_slice.ensures.value ∙ c.in-Ok.ensures.ok) c.in-Ok.ensures.next
