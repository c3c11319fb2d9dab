-- `put_state` meets its clause `text`, by the lemmas of Rows.
use Rattle.std.proofs.Common.{[], ◌∷◌, ◌++◌, length, map, codes}
use Rattle.serde_json.proofs.OnLiterals.{serde_json_on_literals}
use Rattle.mps_session.specs.SessionState.{session_view, moves_of}
use Rattle.mps_show.specs.Shown.{row, step_shown, queues_shown, roles_shown}
use Rattle.mps_show.proofs.Rows.{then_more}
use Rattle.serde_json.specs.Written.{compact_text}
use Rattle.mps_show.proofs.text_state.put_state.Goals as goal

pub returns-clause-text : goal.returns-clause-text
unfolding serde_json_on_literals
returns-clause-text c =
    let names = c.args.names.now in
    let session = c.args.session.now in
    let out = c.args.out.now.items in
    let a0 = c.extend_from_slice.new.self.items in
    let a1 = c.put_history.new.out.items in
    let a2 = c.extend_from_slice-2.new.self.items in
    let a3 = c.put_queues.new.out.items in
    let a4 = c.extend_from_slice-3.new.self.items in
    let a5 = c.put_roles.new.out.items in
    let new = c.push.new.self.items in
    let history = compact_text (row (map (step_shown names) (moves_of session))) in
    let queues = compact_text (row (queues_shown names (length session.types) (session_view session))) in
    let roles = compact_text (row (roles_shown names session.types session.state.history)) in
    let t5 = roles ++ 125 ∷ [] in
    let t4 = codes ",\"roles\":" ++ t5 in
    let t3 = queues ++ t4 in
    let t2 = codes ",\"queues\":" ++ t3 in
    let t1 = history ++ t2 in
    then_more out a0 new (codes "{\"history\":") t1 c.in_ok-extend_from_slice.ensures.items
    (then_more a0 a1 new history t2 c.in_ok-put_history.ensures.text
    (then_more a1 a2 new (codes ",\"queues\":") t3 c.in_ok-extend_from_slice-2.ensures.items
    (then_more a2 a3 new queues t4 c.in_ok-put_queues.ensures.text
    (then_more a3 a4 new (codes ",\"roles\":") t5 c.in_ok-extend_from_slice-3.ensures.items
    (then_more a4 a5 new roles (125 ∷ []) c.in_ok-put_roles.ensures.text c.in_ok-push.ensures.items)))))
