-- In each turn of the loop of `push_queues` the rows so far, with those of the receivers that are left, are those of the sender's queues.
use Rattle.std.proofs.Common.{◌≡◌, ◌-◌, ◌++◌, length, map}
use Rattle.std.specs.List.{flat_map, range_with_len}
use Rattle.mps_session.specs.SessionState.{session_view}
use Rattle.mps_show.specs.Shown.{queue_shown, queues_from}
use Rattle.serde_json.specs.View.{view}
use Rattle.mps_show.proofs.json_state.push_queues.Given as goal

abbrev pub invariant-loop-q : goal.invariant-loop-q
invariant-loop-q l =
    let v = session_view l.session in
    map view l.rows.items ++ flat_map (λ q. queue_shown l.names l.from q (v.queue l.from q)) (range_with_len l.q (l.n - l.q)) ≡ map view l.fn.rows.items ++ queues_from l.names (length l.session.types) v l.from
