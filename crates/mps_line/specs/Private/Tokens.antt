-- What a line begins with.
use Rattle.std.specs.Prelude.{◌≡◌, ◌≢◌, ℕ, List, [], ◌∷◌}
use Rattle.std.specs.List.{AllByRecursion}
use Rattle.mps_base.specs.Spaced.{spaced}
use Rattle.mps_line.specs.Tokens.{Token, SpellsToken}

-- no byte is a space
abbrev pub HasNoSpace : List ℕ → Type 0
HasNoSpace bytes = AllByRecursion (λ c. c ≢ 32) bytes

-- the token, a space and the rest
pub record BeginsWith (names : List (List ℕ)) (bytes : List ℕ) (token : Token) (rest : List ℕ) : Type 0 where
  pub front : List ℕ
  pub parts : bytes ≡ spaced (front ∷ rest ∷ [])
  pub spelled : SpellsToken names front token
