-- `write_branches` meets its clause `known`, by the lemmas of Written.
use Rattle.mps_local.proofs.Written.{more_known}
use Rattle.mps_local.proofs.writing.write_branches.Goals as goal

pub returns-in_ok-push-in-More-2-clause-known : goal.returns-in_ok-push-in-More-2-clause-known
returns-in_ok-push-in-More-2-clause-known c =
    let known = rw c.in-More.is at c.requires.known in
    rw c.in_ok-push-in-More-2.ensures.items
    (more_known _ _ _ (rw c.deref-in-More.ensures known.0)
    (rw c.in_ok-push-in-More.ensures.items (more_known _ _ _ (rw c.deref.ensures known.1) c.requires.others)))
