-- `let_in` may call `spawn`, by the lemmas of Crossing.
use denote.Param.Send.{sendable}
use Rattle.std.proofs.Crossing.{crosses}
use Rattle.std.proofs.Crossing as heap
use Rattle.std.proofs.net.tcp.TcpStream.TheSendSync as stream
use Rattle.mps_keeper.proofs.keeper.Keeper.TheSendSync as keeper
use Rattle.mps_hub.proofs.Crossing.{desk_sync}
use Rattle.mps_hub.proofs.lobby.Lobby.TheSendSync as lobby
use Rattle.mps_hub.proofs.server.let_in.Goals as goal

-- the desk, the keepers and the lobby may be shared by threads
pub spawn-started-requires-send-F : goal.spawn-started-requires-send-F
spawn-started-requires-send-F g c κs within =
    let r = c.type_bounds.sync-R in
    let q = c.type_bounds.sync-G in
    let s = c.type_bounds.send-S in
    let d = c.type_bounds.sync-D in
    let b = c.type_bounds.sync-B in
    search (sendable, crosses, desk_sync, keeper.the_sync, lobby.the_sync, heap.send, heap.sync, stream.the_send, stream.the_sync) depth 20
