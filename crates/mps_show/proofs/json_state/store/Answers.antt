-- `store` meets its contract and keeps what holds in each turn of its loop, by the lemmas of Rows.
use Rattle.std.proofs.Common.{◌≡◌, ℕ, ◌+◌, ◌≤◌, List, length, Some, drop, map, sym, ap, arith}
use Rattle.std.specs.Prelude.{slice_get}
use Rattle.std.proofs.lemmas.List.{drop_all}
use Rattle.mps_base.specs.declared.value.Value.{Value}
use Rattle.mps_session.specs.SessionState.{session_view}
use Rattle.mps_show.specs.Shown.{binding_shown}
use Rattle.mps_show.proofs.Rows.{one_more, all_made, next_at}
use Rattle.mps_show.proofs.json_state.store.Goals as goal

pub loop-k-preserved : goal.loop-k-preserved
loop-k-preserved c =
    let store = ((session_view c.args.session.now).participant c.args.role).store in
    let k = c.loop-k.k in
    let binding : List ℕ × Value = (c.in-Some.binding.0.now, c.in-Some.binding.1.now) in
    let at : slice_get store k ≡ Some binding = sym c.in-Some.ensures in
    one_more c.loop-k.all.items c.push.new.self.items c.in_ok-binding.field-0 (binding_shown binding) (map binding_shown (drop k store)) (map binding_shown (drop (k + 1) store)) _
    c.in_ok-push.ensures.items c.in_ok-binding.ensures (ap (map binding_shown) (next_at store k binding at)) c.loop-k.invariant

pub returns : goal.returns
returns c =
    let store = ((session_view c.args.session.now).participant c.args.role).store in
    let k = c.loop-k.k in
    let over : length store ≤ k = omega (arith, c.slots-count.ensures, c.loop-k-test.false) in
    all_made c.loop-k.all (map binding_shown (drop k store)) (map binding_shown store) (ap (map binding_shown) (drop_all k store over)) c.loop-k.invariant
