-- `put_participant` meets its clauses `text` and `plain`, by the lemmas of Plain and Rows.
use Rattle.std.proofs.Common.{◌≡◌, ℕ, List, [], ◌∷◌, ◌++◌, drop, map, ap, ◌∙◌, rules, codes}
use Rattle.serde_json.proofs.OnLiterals.{serde_json_on_literals}
use Rattle.mps_history.specs.Steps.{numbers, steps_of}
use Rattle.mps_local.specs.Actions.{head}
use Rattle.mps_session.specs.SessionState.{session_view}
use Rattle.mps_show.specs.Plain.{AreShown}
use Rattle.mps_show.specs.Shown.{row, role_name, head_shown, number_shown, binding_shown}
use Rattle.mps_show.proofs.Plain.{numbers_are_plain}
use Rattle.mps_show.proofs.Rows.{then_more, past_array}
use Rattle.serde_json.specs.Written.{compact_text}
use Rattle.mps_show.proofs.text_state.put_participant.Goals as goal

pub returns-clause-text : goal.returns-clause-text
unfolding serde_json_on_literals
returns-clause-text c =
    let names = c.args.names.now in
    let session = c.args.session.now in
    let role = c.args.role in
    let own = (session_view session).participant role in
    let out = c.args.out.now.items in
    let a0 = c.extend_from_slice.new.self.items in
    let a1 = c.put_expects.new.out.items in
    let a2 = c.extend_from_slice-2.new.self.items in
    let a3 = c.write.new.out.items in
    let a4 = c.extend_from_slice-3.new.self.items in
    let a5 = c.put_role.new.out.items in
    let a6 = c.extend_from_slice-4.new.self.items in
    let a7 = c.put_store.new.out.items in
    let new = c.push.new.self.items in
    let expects = compact_text (head_shown names (head own.to_come)) in
    let past = compact_text (row (map number_shown (numbers (steps_of role session.state.history)))) in
    let name = compact_text (role_name names role) in
    let store = compact_text (row (map binding_shown own.store)) in
    let t7 = store ++ 125 ∷ [] in
    let t6 = codes ",\"store\":" ++ t7 in
    let t5 = name ++ t6 in
    let t4 = codes ",\"role\":" ++ t5 in
    let t3 = past ++ t4 in
    let t2 = codes ",\"past\":" ++ t3 in
    let t1 = expects ++ t2 in
    let written : a3 ≡ a2 ++ past = c.in_ok-write.ensures ∙ ap (λ (l : List ℕ). a2 ++ (91 ∷ (drop 1 l ++ 93 ∷ []))) c.requires.past ∙ ap (λ (l : List ℕ). a2 ++ l) (past_array (map number_shown (numbers (steps_of role session.state.history)))) in
    then_more out a0 new (codes "{\"expects\":") t1 c.in_ok-extend_from_slice.ensures.items
    (then_more a0 a1 new expects t2 c.in_ok-put_expects.ensures.text
    (then_more a1 a2 new (codes ",\"past\":") t3 c.in_ok-extend_from_slice-2.ensures.items
    (then_more a2 a3 new past t4 written
    (then_more a3 a4 new (codes ",\"role\":") t5 c.in_ok-extend_from_slice-3.ensures.items
    (then_more a4 a5 new name t6 c.in_ok-put_role.ensures.text
    (then_more a5 a6 new (codes ",\"store\":") t7 c.in_ok-extend_from_slice-4.ensures.items
    (then_more a6 a7 new store (125 ∷ []) c.in_ok-put_store.ensures.text c.in_ok-push.ensures.items)))))))

pub returns-clause-plain : goal.returns-clause-plain
returns-clause-plain c =
    let expects : AreShown (codes "expects") = search rules in
    let past : AreShown (codes "past") = search rules in
    let role : AreShown (codes "role") = search rules in
    let store : AreShown (codes "store") = search rules in
    (expects, c.in_ok-put_expects.ensures.plain, (past, numbers_are_plain (numbers (steps_of c.args.role c.args.session.now.state.history)), (role, c.in_ok-put_role.ensures.plain, (store, c.in_ok-put_store.ensures.plain, tt))))
