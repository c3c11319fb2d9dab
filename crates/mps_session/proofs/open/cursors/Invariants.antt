-- In each turn of the loop of `cursors` there is a cursor at the beginning of each type so far.
use Rattle.std.proofs.Common.{map, take}
use Rattle.mps_local.specs.Local.{plain}
use Rattle.mps_session.specs.Private.Opening.{AreStarts}
use Rattle.mps_session.proofs.open.cursors.Given as goal

abbrev pub invariant-loop-t : goal.invariant-loop-t
invariant-loop-t l = AreStarts (map plain (take l.t-index l.types)) l.all.items
