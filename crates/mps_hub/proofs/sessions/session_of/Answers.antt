-- `session_of` meets its clause `fault`, by the lemmas of Shutting.
use Rattle.std.proofs.Common.{List, subst, map}
use Rattle.std.specs.Prelude.{◌≢◌, IfErr}
use Rattle.mps_local.specs.Local.{LocalType, plain}
use Rattle.mps_session.specs.declared.open.OpenFault.TheVariants.{Memory}
use Rattle.mps_session.specs.Peers.{KeepsShut}
use Rattle.mps_hub.proofs.Shutting.{shut}
use Rattle.mps_hub.proofs.sessions.session_of.Goals as goal

pub returns-clause-fault : goal.returns-clause-fault
returns-clause-fault c =
    let e = c.open.ensures in
    subst (λ (types : List LocalType). IfErr c.open.result (λ fault. fault ≢ Memory → KeepsShut types fault)) c.in_ok-copy_all.ensures
    (shut (map plain c.in_ok-copy_all.field-0.items) c.open.result e.count e.peer e.local)
