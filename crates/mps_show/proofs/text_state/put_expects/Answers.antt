-- `put_expects` meets its clauses `text` and `plain`, by the lemmas of Rows and Texts.
use Rattle.std.proofs.Common.{ℕ, List, [], ◌∷◌, ◌++◌, sym, ap, ◌∙◌}
use Rattle.mps_base.specs.Spaced.{spaced}
use Rattle.mps_local.specs.Actions.{head}
use Rattle.mps_session.specs.SessionState.{session_view}
use Rattle.mps_show.specs.Shown.{head_tokens}
use Rattle.mps_show.proofs.Rows.{then_more}
use Rattle.mps_show.proofs.Texts.{escape_plain, plain_is_shown}
use Rattle.mps_show.proofs.text_state.put_expects.Goals as goal

pub returns-clause-text : goal.returns-clause-text
returns-clause-text c =
    let old = c.args.out.now.items in
    let words = spaced (head_tokens c.args.names.now (head ((session_view c.args.session.now).participant c.args.role).to_come)) in
    then_more old c.push.new.self.items c.push-2.new.self.items (34 ∷ []) (words ++ 34 ∷ []) c.in_ok-push.ensures.items
    (then_more c.push.new.self.items c.put_head.new.out.items c.push-2.new.self.items words (34 ∷ []) c.in_ok-put_head.ensures.text c.in_ok-push-2.ensures.items)
    ∙ ap (λ (l : List ℕ). old ++ 34 ∷ (l ++ 34 ∷ [])) (sym (escape_plain words c.in_ok-put_head.ensures.plain))

pub returns-clause-plain : goal.returns-clause-plain
returns-clause-plain c = plain_is_shown _ c.in_ok-put_head.ensures.plain
