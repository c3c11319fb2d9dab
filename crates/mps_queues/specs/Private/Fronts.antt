-- How a front moves with each step that joins or leaves.
use Rattle.std.specs.Prelude.{ℕ, if◌then◌else◌, List, Option, Some, None}
use Rattle.std.specs.Option.{option_and_then}
use Rattle.mps_arena.specs.Keys.{is_at}
use Rattle.mps_arena.specs.KeyedSteps.{KeyedStep}
use Rattle.mps_arena.specs.Neighbours.{next_send_in, prev_send_in}

-- the front, where the first is received
abbrev pub taken : List KeyedStep → Option ℕ → Option ℕ
taken es front = option_and_then (next_send_in es) front

-- the front, where a receipt goes; last is the pair's last send
abbrev pub returned : List KeyedStep → Option ℕ → Option ℕ → Option ℕ
returned es last None = last
returned es last (Some front) = prev_send_in es front

-- the front, where the last send goes
abbrev pub dropped : Option ℕ → Option ℕ → Option ℕ
dropped last None = None
dropped last (Some front) = if is_at last front then None else Some front
