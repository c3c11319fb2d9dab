-- Steps whose numbers are in a list.
use Rattle.std.specs.Prelude.{ℕ, Bool, ◌==◌, List}
use Rattle.std.specs.List.{list_any}

-- whether the number is one of these
abbrev pub is_among : List ℕ → ℕ → Bool
is_among ids n = list_any (λ m. m == n) ids
