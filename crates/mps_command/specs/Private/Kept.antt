-- How a list of numbers of steps is kept.
use Rattle.std.specs.Prelude.{ℕ, List, [], ◌∷◌}
use Rattle.mps_command.specs.declared.step_ids.Kept.{Kept}
use Rattle.mps_command.specs.declared.step_ids.Kept.TheVariants.{One, Many}

-- one number, or those of a vector
abbrev pub numbers : Kept → List ℕ
numbers (One id) = id ∷ []
numbers (Many ids) = ids.items
