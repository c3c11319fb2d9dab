-- In each turn of the loop of `past` the numbers so far, with those of the steps that are left, are the role's past.
use Rattle.std.proofs.Common.{◌≡◌, ◌++◌, map}
use Rattle.mps_history.specs.Steps.{numbers, steps_of}
use Rattle.mps_show.specs.Shown.{number_shown}
use Rattle.serde_json.specs.View.{view}
use Rattle.mps_show.proofs.json_state.past.Given as goal

abbrev pub invariant-loop-moved : goal.invariant-loop-moved
invariant-loop-moved l =
    map view l.all.items ++ map number_shown (numbers (steps_of l.role (map (λ m. m.0) l.moved-iterator))) ≡ map number_shown (numbers (steps_of l.role l.session.state.history))
