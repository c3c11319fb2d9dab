-- Proves the law `unmerged_is_named`, clauses `named` and `none`, by the lemmas of Unmerged.
use Rattle.mps_local.proofs.Unmerged.{named, none_named}
use Rattle.mps_local.proofs.laws.unmerged_is_named.Goals as goal

pub returns-clause-named : goal.returns-clause-named
returns-clause-named c = named

pub returns-clause-none : goal.returns-clause-none
returns-clause-none c = none_named
