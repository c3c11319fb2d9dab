-- `write_node` meets its clause `known`, by the lemmas of Written.
use Rattle.mps_local.proofs.Written.{more_known}
use Rattle.mps_local.proofs.writing.write_node.Goals as goal

pub returns-in_ok-push-in-Rec-clause-known : goal.returns-in_ok-push-in-Rec-clause-known
returns-in_ok-push-in-Rec-clause-known c =
    rw c.in_ok-push-in-Rec.ensures.items (more_known _ _ _ (rw c.deref.ensures (rw c.in-Rec.is at c.requires.known)) c.requires.others)

pub returns-in_ok-push-in-Send-clause-known : goal.returns-in_ok-push-in-Send-clause-known
returns-in_ok-push-in-Send-clause-known c =
    let known = rw c.in-Send.is at c.requires.known in
    rw c.in_ok-push-in-Send.ensures.items (more_known _ _ _ (rw c.deref-in-Send.ensures known.1) c.requires.others)

pub returns-in_ok-push-in-Recv-clause-known : goal.returns-in_ok-push-in-Recv-clause-known
returns-in_ok-push-in-Recv-clause-known c =
    let known = rw c.in-Recv.is at c.requires.known in
    rw c.in_ok-push-in-Recv.ensures.items (more_known _ _ _ (rw c.deref-in-Recv.ensures known.1) c.requires.others)
