-- In each turn of the loop of `put_history` the text so far, with the steps that are left, is that of the history.
use Rattle.std.proofs.Common.{◌≡◌, ◌++◌, ℕ, [], length, map}
use Rattle.std.specs.List.{AllByRecursion}
use Rattle.std.specs.Prelude.{slice_index_or}
use Rattle.mps_session.specs.Peers.{IsKnown}
use Rattle.mps_session.specs.SessionState.{moves_of}
use Rattle.mps_show.specs.Plain.{ArePlainItems}
use Rattle.mps_show.specs.Private.Rows.{past_text}
use Rattle.mps_show.specs.Shown.{row, step_shown}
use Rattle.serde_json.specs.View.{items_of}
use Rattle.serde_json.specs.Written.{compact_text, items_text}
use Rattle.mps_show.proofs.text_state.put_history.Given as goal

abbrev pub invariant-loop-moved : goal.invariant-loop-moved
invariant-loop-moved l =
    let f = step_shown l.names in
    let all = moves_of l.session in
    let left = l.moved-iterator in
    record {
      text : l.out.items ++ items_text l.later (items_of (map f left)) ≡ l.fn.out.items ++ compact_text (row (map f all));
      plain : ArePlainItems (items_of (map f left)) → ArePlainItems (items_of (map f all));
      known : AllByRecursion (λ m. IsKnown (length l.names) m.0) left;
      pasts : (p : ℕ) → slice_index_or l.pasts p [] ++ past_text p (map (λ m. m.0) left) ≡ past_text p l.session.state.history;
    }
