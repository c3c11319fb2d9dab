-- `put_queues_from` keeps what holds in each turn of its loop, by the lemmas of Rows.
use Rattle.std.proofs.Common.{◌≡◌, ℕ, ◌+◌, ◌-◌, ◌++◌, Bool, List, sym, ap, ◌∙◌, subst}
use Rattle.std.specs.List.{flat_map, range_with_len}
use Rattle.mps_session.specs.SessionState.{session_view}
use Rattle.mps_show.specs.Plain.{ArePlainItems}
use Rattle.mps_show.specs.Private.Rows.{joined, behind}
use Rattle.mps_show.specs.Shown.{queue_shown}
use Rattle.mps_show.proofs.Rows.{more_joined, behind-append, plain-append, flat_next}
use Rattle.serde_json.specs.Data.{Data}
use Rattle.serde_json.specs.View.{items_of}
use Rattle.mps_show.proofs.text_state.put_queues_from.Goals as goal

pub loop-q-preserved : goal.loop-q-preserved
loop-q-preserved c =
    let v = session_view c.args.session.now in
    let n = c.roles-n.result in
    let q = c.loop-q.q in
    let now = c.loop-q.now in
    let f : ℕ → List Data = λ k. queue_shown c.args.names.now c.args.from k (v.queue c.args.from k) in
    let rest = flat_map f (range_with_len (q + 1) (n - (q + 1))) in
    let next : flat_map f (range_with_len q (n - q)) ≡ f q ++ rest = flat_next f q n c.loop-q-test.true in
    let text = c.in_ok-now.ensures.text ∙ ap (λ (k : ℕ). c.loop-q.out.items ++ joined now (f k)) c.new.ensures in
    let then = c.in_ok-now.ensures.behind ∙ ap (λ (k : ℕ). behind now (f k)) c.new.ensures in
    record {
      text = more_joined c.loop-q.out.items c.put_queue.new.out.items _ now c.in_ok-now.now (f q) rest text then (ap (λ (l : List Data). c.loop-q.out.items ++ joined now l) (sym next) ∙ c.loop-q.invariant.text);
      behind = ap (λ (b : Bool). behind b rest) then ∙ sym (behind-append now (f q) rest) ∙ ap (behind now) (sym next) ∙ c.loop-q.invariant.behind;
      plain = λ h. c.loop-q.invariant.plain (subst (λ (l : List Data). ArePlainItems (items_of l)) (sym next)
          (plain-append (f q) rest (subst (λ (k : ℕ). ArePlainItems (items_of (f k))) c.new.ensures c.in_ok-now.ensures.plain) h));
    }
