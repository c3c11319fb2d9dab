-- In each turn of the loop of `put_roles` the text so far, with the roles that are left, is that of all roles.
use Rattle.std.proofs.Common.{◌≡◌, ◌-◌, ◌++◌, map}
use Rattle.std.specs.Prelude.{nat_lt}
use Rattle.std.specs.List.{range_with_len}
use Rattle.mps_history.specs.Steps.{numbers, steps_of}
use Rattle.mps_session.specs.SessionState.{session_view}
use Rattle.mps_show.specs.Plain.{ArePlainItems}
use Rattle.mps_show.specs.Shown.{row, role_shown, roles_shown}
use Rattle.serde_json.specs.View.{items_of}
use Rattle.serde_json.specs.Written.{compact_text, items_text}
use Rattle.mps_show.proofs.text_state.put_roles.Given as goal

abbrev pub invariant-loop-p : goal.invariant-loop-p
invariant-loop-p l =
    let h = l.session.state.history in
    let v = session_view l.session in
    let left = map (λ p. role_shown l.names (numbers (steps_of p h)) p (v.participant p)) (range_with_len l.p (l.n - l.p)) in
    let all = roles_shown l.names l.session.types h in
    record {
      text : l.out.items ++ items_text (nat_lt 0 l.p) (items_of left) ≡ l.fn.out.items ++ compact_text (row all);
      plain : ArePlainItems (items_of left) → ArePlainItems (items_of all);
    }
