-- In each turn of the loop of `first_bad_peer_of_any_size` what was found is the least role with a bad peer, of those from the last one back to here.
use Rattle.std.proofs.Common.{◌≡◌, List, ◌++◌, length, map}
use Rattle.std.specs.Prelude.{IfSome, IfNone}
use Rattle.mps_local.specs.declared.Local.{Local}
use Rattle.mps_local.specs.Local.{plain}
use Rattle.mps_session.proofs.FirstBadPeer.{AreFrom, IsFirstBadFrom}
use Rattle.mps_session.proofs.open.first_bad_peer_of_any_size.Given as goal

abbrev pub invariant-loop-t : goal.invariant-loop-t
invariant-loop-t l =
    ((rest : List Local) × (l.fn.types.items ≡ l.types.items ++ rest))
    × IfSome l.found (IsFirstBadFrom (map plain l.fn.types.items) (length l.types.items))
    × IfNone l.found (AreFrom (map plain l.fn.types.items) (length l.types.items))

abbrev pub decreases-loop-t : goal.decreases-loop-t
decreases-loop-t l = length l.types.items
