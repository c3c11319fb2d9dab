-- What each role did, by the keyed steps of a session.
use Rattle.std.specs.Prelude.{ℕ, ◌==◌, List, map, Option}
use Rattle.std.specs.List.{filter}
use Rattle.std.specs.Option.{option_map}
use Rattle.mps_machine.specs.View.{Deed}
use Rattle.mps_arena.specs.KeyedSteps.{KeyedStep, keyed_at}
use Rattle.mps_log.specs.Shown.{Moved, moved_of, shown}

-- what was done by a step that moved this message
abbrev pub deed_of : Moved → Deed
deed_of m = record { act = m.0.act; moved = m.1 }

-- what role p did of these steps, in order
abbrev pub deeds_of : ℕ → List Moved → List Deed
deeds_of p moves = map deed_of (filter (λ m. m.0.role == p) moves)

-- what role p did
abbrev pub past_in : ℕ → List KeyedStep → List Deed
past_in p es = deeds_of p (shown es es)

-- what the step of the key did
abbrev pub deed_in : List KeyedStep → ℕ → Option Deed
deed_in es k = option_map (λ e. deed_of (e.step, moved_of es e)) (keyed_at k es)
