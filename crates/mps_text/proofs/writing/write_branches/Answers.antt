-- `write_branches` meets its clause `named`, by the lemmas of Written.
use Rattle.std.proofs.Common.{arith}
use Rattle.mps_text.proofs.Written.{named_more}
use Rattle.mps_text.proofs.writing.write_branches.Goals as goal

pub returns-in_ok-push-in-More-2-clause-named : goal.returns-in_ok-push-in-More-2-clause-named
returns-in_ok-push-in-More-2-clause-named c = grind (arith, named_more)
