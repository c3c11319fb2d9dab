-- `put_queues` keeps what holds in each turn of its loop, by the lemmas of Rows.
use Rattle.std.proofs.Common.{◌≡◌, ℕ, ◌+◌, ◌-◌, ◌++◌, List, length, sym, ap, ◌∙◌, subst}
use Rattle.std.specs.List.{flat_map, range_with_len}
use Rattle.mps_session.specs.SessionState.{session_view}
use Rattle.mps_show.specs.Plain.{ArePlainItems}
use Rattle.mps_show.specs.Private.Rows.{joined, behind}
use Rattle.mps_show.specs.Shown.{queues_from}
use Rattle.mps_show.proofs.Rows.{more_items, plain-append, flat_next}
use Rattle.serde_json.specs.Data.{Data}
use Rattle.serde_json.specs.View.{items_of}
use Rattle.serde_json.specs.Written.{items_text}
use Rattle.mps_show.proofs.text_state.put_queues.Goals as goal

pub loop-p-preserved : goal.loop-p-preserved
loop-p-preserved c =
    let n = c.roles-n.result in
    let p = c.loop-p.p in
    let later = c.loop-p.later in
    let f : ℕ → List Data = queues_from c.args.names.now (length c.args.session.now.types) (session_view c.args.session.now) in
    let rest = flat_map f (range_with_len (p + 1) (n - (p + 1))) in
    let next : flat_map f (range_with_len p (n - p)) ≡ f p ++ rest = flat_next f p n c.loop-p-test.true in
    let text = c.in_ok-later.ensures.text ∙ ap (λ (k : ℕ). c.loop-p.out.items ++ joined later (f k)) c.new.ensures in
    let then = c.in_ok-later.ensures.behind ∙ ap (λ (k : ℕ). behind later (f k)) c.new.ensures in
    record {
      text = more_items c.loop-p.out.items c.put_queues_from.new.out.items _ later c.in_ok-later.later (f p) rest text then (ap (λ (l : List Data). c.loop-p.out.items ++ items_text later (items_of l)) (sym next) ∙ c.loop-p.invariant.text);
      plain = λ h. c.loop-p.invariant.plain (subst (λ (l : List Data). ArePlainItems (items_of l)) (sym next)
          (plain-append (f p) rest (subst (λ (k : ℕ). ArePlainItems (items_of (f k))) c.new.ensures c.in_ok-later.ensures.plain) h));
    }
