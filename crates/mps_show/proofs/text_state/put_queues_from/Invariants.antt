-- In each turn of the loop of `put_queues_from` the text so far, with the queues to the receivers that are left, is that of the sender's queues.
use Rattle.std.proofs.Common.{◌≡◌, ◌-◌, ◌++◌, length}
use Rattle.std.specs.List.{flat_map, range_with_len}
use Rattle.mps_session.specs.SessionState.{session_view}
use Rattle.mps_show.specs.Plain.{ArePlainItems}
use Rattle.mps_show.specs.Private.Rows.{joined, behind}
use Rattle.mps_show.specs.Shown.{queue_shown, queues_from}
use Rattle.serde_json.specs.View.{items_of}
use Rattle.mps_show.proofs.text_state.put_queues_from.Given as goal

abbrev pub invariant-loop-q : goal.invariant-loop-q
invariant-loop-q l =
    let n = length l.session.types in
    let v = session_view l.session in
    let left = flat_map (λ q. queue_shown l.names l.from q (v.queue l.from q)) (range_with_len l.q (l.n - l.q)) in
    let all = queues_from l.names n v l.from in
    record {
      text : l.out.items ++ joined l.now left ≡ l.fn.out.items ++ joined l.later all;
      behind : behind l.now left ≡ behind l.later all;
      plain : ArePlainItems (items_of left) → ArePlainItems (items_of all);
    }
