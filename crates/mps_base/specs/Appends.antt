-- What a function that writes at the end of a list leaves there.
use Rattle.std.specs.Prelude.{◌≡◌, ℕ, List, ◌++◌}

-- new is old with a text after it that P holds of
abbrev pub AppendsSuch : (List ℕ → Type 0) → List ℕ → List ℕ → Type 0
AppendsSuch P old new = (text : List ℕ) × (new ≡ old ++ text) × P text
