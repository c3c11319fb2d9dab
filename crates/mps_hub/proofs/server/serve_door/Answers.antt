-- `serve_door` meets its clause `unrecorded` and may call `scoped`, by the lemmas of Unserved.
use denote.Param.Send.{sendable}
use Rattle.std.proofs.Common.{length}
use Rattle.mps_hub.proofs.Unserved.{more_recorded}
use Rattle.mps_hub.proofs.server.serve_door.Goals as goal

-- what the closure needs is what is known of the type parameters
pub scoped-accepted-requires : goal.scoped-accepted-requires
scoped-accepted-requires g c =
    let t = c.type_bounds in
    let s = t.send-S in
    let r = t.sync-R in
    let q = t.sync-G in
    let d = t.sync-D in
    let b = t.sync-B in
    record { at = λ a. (t.static-R, (t.static-G, (t.static-S, (t.static-D, (search sendable, search sendable, search sendable, search sendable, search sendable))))) }

pub returns-clause-unrecorded : goal.returns-clause-unrecorded
returns-clause-unrecorded g c = more_recorded c.args.limits.strict c.args.serving.now.desk.now.first (length c.args.serving.now.keepers.now) c.counted.result c.counted.ensures.unrecorded
