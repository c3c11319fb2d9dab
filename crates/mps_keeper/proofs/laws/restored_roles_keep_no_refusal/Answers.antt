-- Proves the law `restored_roles_keep_no_refusal`, by the lemmas of Keeping.
use Rattle.mps_keeper.proofs.Keeping.{lines_keep}
use Rattle.mps_keeper.proofs.laws.restored_roles_keep_no_refusal.Goals as goal

pub returns : goal.returns
returns c = lines_keep
