-- Proves the law `dependence_goes_back`, by the lemmas of Reaching.
use Rattle.mps_history.proofs.Reaching.{DependsOn-earlier}
use Rattle.mps_history.proofs.dependence_goes_back.Goals as goal

pub returns : goal.returns
returns c h t s d = DependsOn-earlier h d
