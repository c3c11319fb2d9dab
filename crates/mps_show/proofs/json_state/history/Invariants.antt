-- In each turn of the loop of `history` the rows so far, with those of the steps that are left, are the history's.
use Rattle.std.proofs.Common.{◌≡◌, ◌++◌, length, map}
use Rattle.std.specs.List.{AllByRecursion}
use Rattle.mps_session.specs.Peers.{IsKnown}
use Rattle.mps_session.specs.SessionState.{moves_of}
use Rattle.mps_show.specs.Shown.{step_shown}
use Rattle.serde_json.specs.View.{view}
use Rattle.mps_show.proofs.json_state.history.Given as goal

abbrev pub invariant-loop-moved : goal.invariant-loop-moved
invariant-loop-moved l = record {
  rows : map view l.rows.items ++ map (step_shown l.names) l.moved-iterator ≡ map (step_shown l.names) (moves_of l.session);
  known : AllByRecursion (λ m. IsKnown (length l.names) m.0) l.moved-iterator;
}
