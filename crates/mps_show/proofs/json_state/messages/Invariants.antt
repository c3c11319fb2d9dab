-- In each turn of the loop of `messages` the values so far, with those of the messages that are left, are the queue's.
use Rattle.std.proofs.Common.{◌≡◌, ◌++◌, map}
use Rattle.mps_session.specs.SessionState.{session_view}
use Rattle.mps_show.specs.Shown.{waiting_shown}
use Rattle.serde_json.specs.View.{view}
use Rattle.mps_show.proofs.json_state.messages.Given as goal

abbrev pub invariant-loop-message : goal.invariant-loop-message
invariant-loop-message l = map view l.all.items ++ map waiting_shown l.message-iterator ≡ map waiting_shown ((session_view l.fn.session).queue l.fn.from l.fn.to)
