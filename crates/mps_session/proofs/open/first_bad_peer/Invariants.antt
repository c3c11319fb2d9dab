-- In each turn of the loop of `first_bad_peer` each type so far names other roles of the session alone.
use Rattle.std.proofs.Common.{ℕ, ◌<◌, length, map}
use Rattle.mps_local.specs.Local.{plain}
use Rattle.mps_machine.specs.View.{type_at}
use Rattle.mps_session.specs.Peers.{HasPeers}
use Rattle.mps_session.proofs.open.first_bad_peer.Given as goal

abbrev pub invariant-loop-i : goal.invariant-loop-i
invariant-loop-i l = (p : ℕ) → p < l.i → HasPeers (length l.types) p (type_at (map plain l.types) p)
