-- The variables of the `rec`s around a tree.
use Rattle.std.specs.Prelude.{ℕ, List, [], ◌∷◌}
use Rattle.mps_local.specs.declared.loops.Bound.{Bound, Nothing, Inside'}

-- the nearest first
abbrev pub names_bound : Bound → List (List ℕ)
names_bound Nothing = []
names_bound (Inside' name p outer) = name.now ∷ names_bound outer
