-- `put_store` keeps what holds in each turn of its loop, by the lemmas of Rows.
use Rattle.std.proofs.Common.{◌≡◌, ℕ, ◌+◌, ◌∷◌, true, List, Some, drop, map, sym, ap, subst, arith}
use Rattle.std.specs.Prelude.{nat_lt, slice_get}
use Rattle.std.proofs.lemmas.Bool.{lt-ltb}
use Rattle.mps_base.specs.declared.value.Value.{Value}
use Rattle.mps_session.specs.SessionState.{session_view}
use Rattle.mps_show.specs.Plain.{ArePlainItems}
use Rattle.mps_show.specs.Shown.{binding_shown}
use Rattle.mps_show.proofs.Rows.{row_more, next_at}
use Rattle.serde_json.specs.Data.{Data}
use Rattle.serde_json.specs.View.{items_of}
use Rattle.mps_show.proofs.text_state.put_store.Goals as goal

pub loop-k-preserved : goal.loop-k-preserved
loop-k-preserved c =
    let store = ((session_view c.args.session.now).participant c.args.role).store in
    let k = c.loop-k.k in
    let binding : List ℕ × Value = (c.in-Some.binding.0.now, c.in-Some.binding.1.now) in
    let at : slice_get store k ≡ Some binding = sym c.in-Some.ensures in
    let rest = map binding_shown (drop (k + 1) store) in
    let split : map binding_shown (drop k store) ≡ binding_shown binding ∷ rest = ap (map binding_shown) (next_at store k binding at) in
    let later : nat_lt 0 (k + 1) ≡ true = lt-ltb 0 (k + 1) (omega arith) in
    record {
      text = row_more c.loop-k.out.items c.put_comma.new.out.items c.put_binding.new.out.items _ (nat_lt 0 k) (nat_lt 0 (k + 1)) (binding_shown binding) (map binding_shown (drop k store)) rest c.in_ok-put_comma.ensures c.in_ok-put_binding.ensures.text later split c.loop-k.invariant.text;
      plain = λ h. c.loop-k.invariant.plain (subst (λ (l : List Data). ArePlainItems (items_of l)) (sym split) (c.in_ok-put_binding.ensures.plain, h));
    }
