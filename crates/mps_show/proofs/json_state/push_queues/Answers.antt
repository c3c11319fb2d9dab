-- `push_queues` keeps what holds in each turn of its loop, by the lemmas of Rows.
use Rattle.std.proofs.Common.{ℕ, ◌+◌, ◌-◌, ◌++◌, List, map, ap, ◌∙◌}
use Rattle.std.specs.List.{flat_map, range_with_len}
use Rattle.mps_session.specs.SessionState.{session_view}
use Rattle.mps_show.specs.Shown.{queue_shown}
use Rattle.mps_show.proofs.Rows.{more_rows, flat_next}
use Rattle.serde_json.specs.Data.{Data}
use Rattle.serde_json.specs.View.{view}
use Rattle.mps_show.proofs.json_state.push_queues.Goals as goal

pub loop-q-preserved : goal.loop-q-preserved
loop-q-preserved c =
    let v = session_view c.args.session.now in
    let f : ℕ → List Data = λ k. queue_shown c.args.names.now c.args.from k (v.queue c.args.from k) in
    let q = c.loop-q.q in
    let n = c.roles-n.result in
    let made = map view c.loop-q.rows.items in
    more_rows made (map view c.push_queue.new.rows.items) (f q) (flat_map f (range_with_len (q + 1) (n - (q + 1)))) (flat_map f (range_with_len q (n - q))) _
    (c.in_ok-push_queue.ensures ∙ ap (λ (k : ℕ). made ++ f k) c.new.ensures) (flat_next f q n c.loop-q-test.true) c.loop-q.invariant
