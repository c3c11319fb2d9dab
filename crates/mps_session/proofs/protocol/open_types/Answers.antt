-- The projections of a protocol without faults have no fault, and name no bad peer, so `open_types` opens them.
use Rattle.std.proofs.Common.{◌∙◌, Err, map, ap}
use Rattle.mps_local.specs.Local.{plain}
use Rattle.mps_session.proofs.OneProtocol.{no_bad_peer, no_fault}
use Rattle.mps_session.proofs.protocol.open_types.Goals as goal

pub unreachable-requires-in-Err-BadPeer : goal.unreachable-requires-in-Err-BadPeer
unreachable-requires-in-Err-BadPeer c =
    no_bad_peer (map plain c.args.types.items) c.requires c.in-Err-BadPeer.field-0-0 (c.open.ensures.peer c.in-Err-BadPeer.field-0-0 (c.in-Err-BadPeer.is ∙ ap Err c.in-Err-BadPeer.field-0-is))

pub unreachable-requires-in-Err-Local : goal.unreachable-requires-in-Err-Local
unreachable-requires-in-Err-Local c =
    no_fault (map plain c.args.types.items) c.requires c.in-Err-Local.field-0-0 c.in-Err-Local.field-0-1 (c.open.ensures.local c.in-Err-Local.field-0-0 c.in-Err-Local.field-0-1 (c.in-Err-Local.is ∙ ap Err c.in-Err-Local.field-0-is))
