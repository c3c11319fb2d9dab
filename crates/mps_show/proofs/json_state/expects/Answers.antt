-- `expects` never reaches what can't be, by the lemmas of Texts.
use Rattle.std.proofs.Common.{◌≡◌, ◌++◌, ℕ, List, true, sym, ap, ◌∙◌, subst}
use Rattle.std.specs.Prelude.{is_ok}
use Rattle.std.specs.Str.{IsAscii}
use Rattle.std.proofs.lemmas.Str.{IsUtf8-from_ascii}
use Rattle.mps_base.specs.Spaced.{spaced}
use Rattle.mps_local.specs.Actions.{head}
use Rattle.mps_session.specs.SessionState.{session_view}
use Rattle.mps_show.specs.Shown.{head_tokens}
use Rattle.mps_show.proofs.Texts.{plain_is_ascii}
use Rattle.mps_show.proofs.json_state.expects.Goals as goal

pub unreachable-requires : goal.unreachable-requires
unreachable-requires c =
    let words = spaced (head_tokens c.args.names.now (head ((session_view c.args.session.now).participant c.args.role).to_come)) in
    let is : c.put_head.new.out.items ≡ words = c.in_ok-put_head.ensures.text ∙ ap (λ (l : List ℕ). l ++ words) c.new-words.ensures.items in
    let ascii : IsAscii c.put_head.new.out.items = subst IsAscii (sym is) (plain_is_ascii words c.in_ok-put_head.ensures.plain) in
    let ok : is_ok c.from_utf8.result ≡ true = c.from_utf8.ensures.succeeds (IsUtf8-from_ascii c.put_head.new.out.items ascii) in
    let no = rw c.in-Err.is at ok in
    absurd cc
