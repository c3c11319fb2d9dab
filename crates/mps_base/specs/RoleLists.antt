-- The roles of a session, as a list of names.
use Rattle.std.specs.Prelude.{◌≢◌, ℕ, ◌≤◌, List, [], ◌∷◌, length, ⊤}
use Rattle.std.specs.List.{AllByRecursion}

-- from 2 to 8, of names of roles or of what else there is one of for each role
pub record HasRoleCount {A : Type 0} (each : List A) : Type 0 where
  pub some : 2 ≤ length each
  pub few : length each ≤ 8

-- no name stands twice
abbrev pub AreDistinct : List (List ℕ) → Type 0
AreDistinct [] = ⊤
AreDistinct (name ∷ names) = AllByRecursion (λ other. other ≢ name) names × AreDistinct names

-- 2 to 8 distinct names
pub record AreRoles (names : List (List ℕ)) : Type 0 where
  pub count : HasRoleCount names
  pub distinct : AreDistinct names
