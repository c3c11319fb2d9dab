-- Proves the law `neighbours_match_by_place`, by the lemmas of MatchingByPlace.
use Rattle.mps_history.proofs.MatchingByPlace.{pairing}
use Rattle.mps_history.proofs.neighbours_match_by_place.Goals as goal

pub returns : goal.returns
returns c = pairing
