-- In each turn of the loop of `store` the rows so far, with those of the slots that are left, are the store's.
use Rattle.std.proofs.Common.{◌≡◌, ◌++◌, drop, map}
use Rattle.mps_session.specs.SessionState.{session_view}
use Rattle.mps_show.specs.Shown.{binding_shown}
use Rattle.serde_json.specs.View.{view}
use Rattle.mps_show.proofs.json_state.store.Given as goal

abbrev pub invariant-loop-k : goal.invariant-loop-k
invariant-loop-k l =
    let store = ((session_view l.session).participant l.role).store in
    map view l.all.items ++ map binding_shown (drop l.k store) ≡ map binding_shown store
