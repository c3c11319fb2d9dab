-- In each turn of the loop of `put_store` the text so far, with the slots that are left, is that of the store.
use Rattle.std.proofs.Common.{◌≡◌, ◌++◌, drop, map}
use Rattle.std.specs.Prelude.{nat_lt}
use Rattle.mps_session.specs.SessionState.{session_view}
use Rattle.mps_show.specs.Plain.{ArePlainItems}
use Rattle.mps_show.specs.Shown.{row, binding_shown}
use Rattle.serde_json.specs.View.{items_of}
use Rattle.serde_json.specs.Written.{compact_text, items_text}
use Rattle.mps_show.proofs.text_state.put_store.Given as goal

abbrev pub invariant-loop-k : goal.invariant-loop-k
invariant-loop-k l =
    let all = ((session_view l.session).participant l.role).store in
    let left = map binding_shown (drop l.k all) in
    record {
      text : l.out.items ++ items_text (nat_lt 0 l.k) (items_of left) ≡ l.fn.out.items ++ compact_text (row (map binding_shown all));
      plain : ArePlainItems (items_of left) → ArePlainItems (items_of (map binding_shown all));
    }
