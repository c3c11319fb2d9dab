-- In each turn of the loop of `put_queues` the text so far, with the queues of the senders that are left, is that of all queues.
use Rattle.std.proofs.Common.{◌≡◌, ◌-◌, ◌++◌, length}
use Rattle.std.specs.List.{flat_map, range_with_len}
use Rattle.mps_session.specs.SessionState.{session_view}
use Rattle.mps_show.specs.Plain.{ArePlainItems}
use Rattle.mps_show.specs.Shown.{row, queues_from, queues_shown}
use Rattle.serde_json.specs.View.{items_of}
use Rattle.serde_json.specs.Written.{compact_text, items_text}
use Rattle.mps_show.proofs.text_state.put_queues.Given as goal

abbrev pub invariant-loop-p : goal.invariant-loop-p
invariant-loop-p l =
    let n = length l.session.types in
    let left = flat_map (queues_from l.names n (session_view l.session)) (range_with_len l.p (l.n - l.p)) in
    let all = queues_shown l.names n (session_view l.session) in
    record {
      text : l.out.items ++ items_text l.later (items_of left) ≡ l.fn.out.items ++ compact_text (row all);
      plain : ArePlainItems (items_of left) → ArePlainItems (items_of all);
    }
