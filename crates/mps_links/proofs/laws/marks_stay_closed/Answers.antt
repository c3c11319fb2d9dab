-- Proves the law `marks_stay_closed`, by the lemmas of Going.
use Rattle.mps_links.proofs.Going.{still_closed}
use Rattle.mps_links.proofs.laws.marks_stay_closed.Goals as goal

pub returns : goal.returns
returns c es k sound closed newest = still_closed es k sound newest closed
