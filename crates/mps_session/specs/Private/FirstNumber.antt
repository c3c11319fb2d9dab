-- The first number of a stretch of steps.
use Rattle.std.specs.Prelude.{ℕ, List, [], ◌∷◌, Option, Some, None}
use Rattle.mps_base.specs.declared.action.Step.{Step}

-- the number of the first of the steps
abbrev pub first_number : List Step → Option ℕ
first_number [] = None
first_number (s ∷ h) = Some s.id
