-- `queues` keeps what holds in each turn of its loop, by the lemmas of Rows.
use Rattle.std.proofs.Common.{ℕ, ◌+◌, ◌-◌, ◌++◌, List, length, map, ap, ◌∙◌}
use Rattle.std.specs.List.{flat_map, range_with_len}
use Rattle.mps_session.specs.SessionState.{session_view}
use Rattle.mps_show.specs.Shown.{queues_from}
use Rattle.mps_show.proofs.Rows.{more_rows, flat_next}
use Rattle.serde_json.specs.Data.{Data}
use Rattle.serde_json.specs.View.{view}
use Rattle.mps_show.proofs.json_state.queues.Goals as goal

pub loop-p-preserved : goal.loop-p-preserved
loop-p-preserved c =
    let f : ℕ → List Data = queues_from c.args.names.now (length c.args.session.now.types) (session_view c.args.session.now) in
    let p = c.loop-p.p in
    let n = c.roles-n.result in
    let made = map view c.loop-p.rows.items in
    more_rows made (map view c.push_queues.new.rows.items) (f p) (flat_map f (range_with_len (p + 1) (n - (p + 1)))) (flat_map f (range_with_len p (n - p))) _
    (c.in_ok-push_queues.ensures ∙ ap (λ (k : ℕ). made ++ f k) c.new.ensures) (flat_next f p n c.loop-p-test.true) c.loop-p.invariant
