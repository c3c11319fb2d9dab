-- `Book::append` meets its clauses `added` and `broken_off`, by the lemmas of Taking.
use Rattle.mps_keeper.proofs.Taking.{took_text, broken_more}
use Rattle.mps_keeper.proofs.book.Book.append.Goals as goal

pub returns-in-Ok-clause-added : goal.returns-in-Ok-clause-added
returns-in-Ok-clause-added g c = λ start lines next is took. took_text start _ _ lines next _ is took c.in-Ok.ensures.sent

pub returns-in-Err-clause-broken_off : goal.returns-in-Err-clause-broken_off
returns-in-Err-clause-broken_off g c = λ start lines next is took. broken_more start _ _ lines next _ is took c.in-Err.ensures.front
