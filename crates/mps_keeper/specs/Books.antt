-- What a sink took of lines.
use Rattle.std.specs.Prelude.{◌≡◌, ⊤, ℕ, List, ◌++◌, Option, None, Some}
use Rattle.std.specs.Io.KnownBytes.{Appends}
use Rattle.std.specs.List.{flat_map}
use Rattle.std.specs.Option.{option_map}
use Rattle.mps_lines.specs.Lines.{ended}
use Rattle.mps_seal.specs.Seals.{all_sealed, seal_after}

-- these lines, each with its LF
abbrev pub TookLines : Option (List ℕ) → List (List ℕ) → Option (List ℕ) → Type 0
TookLines start lines now = Appends start now (flat_map ended lines)

-- it took more, or nothing
abbrev pub TookMore : Option (List ℕ) → Option (List ℕ) → Type 0
TookMore start now = (more : List ℕ) × Appends start now more

-- these lines, and a front of those that were to follow
pub record TookBrokenOff (start : Option (List ℕ)) (lines next : List (List ℕ)) (now : Option (List ℕ)) : Type 0 where
  pub part : List ℕ
  pub others : List ℕ
  pub front : flat_map ended next ≡ part ++ others
  pub took : Appends start now (flat_map ended lines ++ part)

-- ---- with seals

-- what was taken of a journal whose lines have seals: the bytes, and the seal of the newest line
pub record Sealed : Type 0 where
  pub bytes : List ℕ
  pub seal : List ℕ

-- the same and these lines, each with its seal and its LF
abbrev pub sealed_on : Sealed → List (List ℕ) → Sealed
sealed_on t lines =
    record { bytes = t.bytes ++ flat_map ended (all_sealed t.seal lines); seal = seal_after t.seal lines }

-- these lines were taken, where it is known what was taken before
abbrev pub TookSealed : Option Sealed → List (List ℕ) → Option Sealed → Type 0
TookSealed None lines now = ⊤
TookSealed (Some t) lines None = ⊥
TookSealed (Some t) lines (Some u) = u ≡ sealed_on t lines

-- the bytes alone
abbrev pub bytes_of : Option Sealed → Option (List ℕ)
bytes_of taken = option_map (λ t. t.bytes) taken
