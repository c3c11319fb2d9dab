-- In each turn of the loop of `queues` the rows so far, with those of the senders that are left, are those of all queues.
use Rattle.std.proofs.Common.{◌≡◌, ◌-◌, ◌++◌, length, map}
use Rattle.std.specs.List.{flat_map, range_with_len}
use Rattle.mps_session.specs.SessionState.{session_view}
use Rattle.mps_show.specs.Shown.{queues_from, queues_shown}
use Rattle.serde_json.specs.View.{view}
use Rattle.mps_show.proofs.json_state.queues.Given as goal

abbrev pub invariant-loop-p : goal.invariant-loop-p
invariant-loop-p l =
    let n = length l.session.types in
    map view l.rows.items ++ flat_map (queues_from l.names n (session_view l.session)) (range_with_len l.p (l.n - l.p)) ≡ queues_shown l.names n (session_view l.session)
