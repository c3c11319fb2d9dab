-- `one_line` holds, by the lemma of Shown.
use Rattle.mps_watch.proofs.Shown.{shown}
use Rattle.mps_watch.proofs.laws.one_line.Goals as goal

pub returns : goal.returns
returns c = shown
