-- `write_stand` meets its clauses `text` and `shown`, by the lemmas of Plain and Rows.
use Rattle.std.proofs.Common.{[], ◌∷◌, ◌++◌, map, rules, codes}
use Rattle.serde_json.proofs.OnLiterals.{serde_json_on_literals}
use Rattle.mps_history.specs.Steps.{newest_of}
use Rattle.mps_local.specs.Actions.{head}
use Rattle.mps_session.specs.SessionState.{session_view, moves_of}
use Rattle.mps_show.specs.Plain.{AreShown}
use Rattle.mps_show.specs.Shown.{row, head_shown, newest_shown, binding_shown, stand_shown}
use Rattle.mps_show.proofs.Plain.{text_is_shown}
use Rattle.mps_show.proofs.Rows.{then_more}
use Rattle.serde_json.specs.Written.{compact_text}
use Rattle.mps_show.proofs.text_state.write_stand.Goals as goal

pub returns-clause-text : goal.returns-clause-text
unfolding serde_json_on_literals
returns-clause-text c =
    let names = c.args.names.now in
    let session = c.args.session.now in
    let role = c.args.role in
    let own = (session_view session).participant role in
    let out = c.args.out.now.items in
    let a0 = c.extend_from_slice.new.self.items in
    let a1 = c.put_expects.new.out.items in
    let a2 = c.extend_from_slice-2.new.self.items in
    let a3 = c.put_newest.new.out.items in
    let a4 = c.extend_from_slice-3.new.self.items in
    let a5 = c.put_store.new.out.items in
    let new = c.push.new.self.items in
    let expects = compact_text (head_shown names (head own.to_come)) in
    let newest = compact_text (newest_shown names (newest_of role (moves_of session))) in
    let store = compact_text (row (map binding_shown own.store)) in
    let t5 = store ++ 125 ∷ [] in
    let t4 = codes ",\"store\":" ++ t5 in
    let t3 = newest ++ t4 in
    let t2 = codes ",\"newest\":" ++ t3 in
    let t1 = expects ++ t2 in
    then_more out a0 new (codes "{\"expects\":") t1 c.in_ok-extend_from_slice.ensures.items
    (then_more a0 a1 new expects t2 c.in_ok-put_expects.ensures.text
    (then_more a1 a2 new (codes ",\"newest\":") t3 c.in_ok-extend_from_slice-2.ensures.items
    (then_more a2 a3 new newest t4 c.in_ok-put_newest.ensures.text
    (then_more a3 a4 new (codes ",\"store\":") t5 c.in_ok-extend_from_slice-3.ensures.items
    (then_more a4 a5 new store (125 ∷ []) c.in_ok-put_store.ensures.text c.in_ok-push.ensures.items)))))

pub returns-clause-shown : goal.returns-clause-shown
returns-clause-shown c =
    let session = c.args.session.now in
    let expects : AreShown (codes "expects") = search rules in
    let newest : AreShown (codes "newest") = search rules in
    let store : AreShown (codes "store") = search rules in
    text_is_shown (stand_shown c.args.names.now session.types session.state.history c.args.role)
    (expects, c.in_ok-put_expects.ensures.plain, (newest, c.in_ok-put_newest.ensures.plain, (store, c.in_ok-put_store.ensures.plain, tt)))
