-- Proves the law `marks_leave_stores`, by the lemmas of Bindings.
use Rattle.mps_stores.proofs.Bindings.{stores_marked}
use Rattle.mps_stores.proofs.laws.marks_leave_stores.Goals as goal

pub returns : goal.returns
returns c = λ naming es k m stores. stores_marked naming k m es stores
