-- `put_roles` keeps what holds in each turn of its loop, by the lemmas of Rows.
use Rattle.std.proofs.Common.{◌≡◌, ℕ, ◌+◌, ◌-◌, ◌++◌, ◌∷◌, true, List, map, sym, ap, ◌∙◌, subst, arith}
use Rattle.std.specs.Prelude.{nat_lt}
use Rattle.std.specs.List.{range_with_len}
use Rattle.std.proofs.lemmas.Bool.{lt-ltb}
use Rattle.mps_history.specs.Steps.{numbers, steps_of}
use Rattle.mps_session.specs.SessionState.{session_view}
use Rattle.mps_show.specs.Plain.{IsPlain, ArePlainItems}
use Rattle.mps_show.specs.Shown.{role_shown}
use Rattle.mps_show.proofs.Rows.{row_more, map_next}
use Rattle.serde_json.specs.Data.{Data}
use Rattle.serde_json.specs.View.{items_of}
use Rattle.serde_json.specs.Written.{compact_text}
use Rattle.mps_show.proofs.text_state.put_roles.Goals as goal

pub loop-p-preserved : goal.loop-p-preserved
loop-p-preserved c =
    let h = c.args.session.now.state.history in
    let v = session_view c.args.session.now in
    let n = c.roles-n.result in
    let p = c.loop-p.p in
    let f : ℕ → Data = λ k. role_shown c.args.names.now (numbers (steps_of k h)) k (v.participant k) in
    let rest = map f (range_with_len (p + 1) (n - (p + 1))) in
    let next : map f (range_with_len p (n - p)) ≡ f p ∷ rest = map_next f p n c.loop-p-test.true in
    let later : nat_lt 0 (p + 1) ≡ true = lt-ltb 0 (p + 1) (omega arith) in
    let text = c.in_ok-put_participant.ensures.text ∙ ap (λ (k : ℕ). c.put_comma.new.out.items ++ compact_text (f k)) c.new.ensures in
    record {
      text = row_more c.loop-p.out.items c.put_comma.new.out.items c.put_participant.new.out.items _ (nat_lt 0 p) (nat_lt 0 (p + 1)) (f p) (map f (range_with_len p (n - p))) rest c.in_ok-put_comma.ensures text later next c.loop-p.invariant.text;
      plain = λ h. c.loop-p.invariant.plain (subst (λ (l : List Data). ArePlainItems (items_of l)) (sym next)
          (subst (λ (k : ℕ). IsPlain (f k)) c.new.ensures c.in_ok-put_participant.ensures.plain, h));
    }
