-- Of two steps the one that comes earlier, and the one that comes later.
use Rattle.std.specs.Prelude.{ℕ, Bool, false, nat_lt, if◌then◌else◌, List, Option, Some, None}
use Rattle.mps_arena.specs.KeyedSteps.{KeyedStep}
use Rattle.mps_arena.specs.Neighbours.{id_in}

-- both numbers are there, and the first is the smaller one
abbrev pub is_before : Option ℕ → Option ℕ → Bool
is_before None n = false
is_before (Some m) None = false
is_before (Some m) (Some n) = nat_lt m n

-- the key of the step with the smaller number
abbrev pub earlier : List KeyedStep → Option ℕ → Option ℕ → Option ℕ
earlier es None k = k
earlier es (Some j) None = Some j
earlier es (Some j) (Some k) = if is_before (id_in es j) (id_in es k) then Some j else Some k

-- the key of the step with the larger number
abbrev pub later : List KeyedStep → Option ℕ → Option ℕ → Option ℕ
later es None k = k
later es (Some j) None = Some j
later es (Some j) (Some k) = if is_before (id_in es j) (id_in es k) then Some k else Some j
