-- In each turn of the loop of `put_messages` the text so far, with the messages that are left, is that of the queue.
use Rattle.std.proofs.Common.{◌≡◌, [], ◌∷◌, ◌++◌, true, map}
use Rattle.mps_show.specs.Plain.{ArePlainItems}
use Rattle.mps_show.specs.Shown.{row, role_name, waiting_shown}
use Rattle.serde_json.specs.View.{items_of}
use Rattle.serde_json.specs.Written.{compact_text, items_text}
use Rattle.mps_show.proofs.text_state.put_messages.Given as goal

abbrev pub invariant-loop-message : goal.invariant-loop-message
invariant-loop-message l =
    let left = items_of (map waiting_shown l.message-iterator) in
    record {
      text : l.out.items ++ (items_text true left ++ 93 ∷ [])
          ≡ l.fn.out.items ++ compact_text (row (role_name l.names l.fn.from ∷ role_name l.names l.fn.to ∷ row (map waiting_shown (l.first ∷ l.fn.others)) ∷ []));
      plain : ArePlainItems left → ArePlainItems (items_of (map waiting_shown (l.first ∷ l.fn.others)));
    }
