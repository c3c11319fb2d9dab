-- `roles` keeps what holds in each turn of its loop, by the lemmas of Rows.
use Rattle.std.proofs.Common.{ℕ, ◌+◌, ◌-◌, map, ap, ◌∙◌}
use Rattle.std.specs.List.{range_with_len}
use Rattle.mps_history.specs.Steps.{numbers, steps_of}
use Rattle.mps_session.specs.SessionState.{session_view}
use Rattle.mps_show.specs.Shown.{role_shown}
use Rattle.mps_show.proofs.Rows.{one_more, map_next}
use Rattle.serde_json.specs.Data.{Data}
use Rattle.mps_show.proofs.json_state.roles.Goals as goal

pub loop-p-preserved : goal.loop-p-preserved
loop-p-preserved c =
    let h = c.args.session.now.state.history in
    let v = session_view c.args.session.now in
    let n = c.roles-n.result in
    let p = c.loop-p.p in
    let f : ℕ → Data = λ k. role_shown c.args.names.now (numbers (steps_of k h)) k (v.participant k) in
    one_more c.loop-p.rows.items c.push.new.self.items c.in_ok-participant.field-0 (f p) (map f (range_with_len p (n - p))) (map f (range_with_len (p + 1) (n - (p + 1)))) _
    c.in_ok-push.ensures.items (c.in_ok-participant.ensures ∙ ap f c.new.ensures) (map_next f p n c.loop-p-test.true) c.loop-p.invariant
