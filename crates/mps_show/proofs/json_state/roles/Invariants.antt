-- In each turn of the loop of `roles` the rows so far, with those of the roles that are left, are those of all roles.
use Rattle.std.proofs.Common.{◌≡◌, ◌-◌, ◌++◌, map}
use Rattle.std.specs.List.{range_with_len}
use Rattle.mps_history.specs.Steps.{numbers, steps_of}
use Rattle.mps_session.specs.SessionState.{session_view}
use Rattle.mps_show.specs.Shown.{role_shown, roles_shown}
use Rattle.serde_json.specs.View.{view}
use Rattle.mps_show.proofs.json_state.roles.Given as goal

abbrev pub invariant-loop-p : goal.invariant-loop-p
invariant-loop-p l =
    let h = l.session.state.history in
    let v = session_view l.session in
    map view l.rows.items ++ map (λ p. role_shown l.names (numbers (steps_of p h)) p (v.participant p)) (range_with_len l.p (l.n - l.p)) ≡ roles_shown l.names l.session.types h
