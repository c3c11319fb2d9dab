-- The lines of a journal's file, with seals or without.
use Rattle.std.specs.Prelude.{◌≡◌, ◌<◌, ℕ, Bool, true, false, List, [], ◌∷◌, ◌++◌, Option, None, Some, length}
use Rattle.std.specs.List.{AllByRecursion}
use Rattle.mps_base.specs.Values.{IsShown}
use Rattle.mps_keeper.specs.declared.keeper.TheConstants.{LONGEST_LINE}
use Rattle.mps_seal.specs.Seals.{next_seal, sealed}
use Rattle.mps_keeper.specs.declared.chain.Chain.{Chain}

-- the line begins with a space, as no command's line does
abbrev pub IsSpaced : List ℕ → Type 0
IsSpaced line = (rest : List ℕ) × (line ≡ 32 ∷ rest)

-- the line says this: where lines have seals it ends in its own, and else it is that itself
abbrev pub Says : (is_sealed : Bool) → (seal : List ℕ) → (line body : List ℕ) → Type 0
Says true seal line body = line ≡ sealed seal body
Says false seal line body = (line ≡ body) × (IsSpaced line → ⊥)

-- What a line is, after those before it: one that says something; or the mark, a seal alone, after which lines have
-- seals. Lines before the mark are of versions without seals.
abbrev pub Reads : (before : Chain) → (line : List ℕ) → Option (List ℕ) → (after : Chain) → Type 0
Reads before line (Some body) after =
    Says before.is_sealed before.seal line body
    × (after ≡ record { seal = next_seal before.seal body; is_sealed = before.is_sealed })
Reads before line None after =
    (before.is_sealed ≡ false) × (line ≡ sealed before.seal [])
    × (after ≡ record { seal = next_seal before.seal []; is_sealed = true })

-- what a line says, in front of what those after it do
abbrev pub in_front : Option (List ℕ) → List (List ℕ) → List (List ℕ)
in_front None bodies = bodies
in_front (Some body) bodies = body ∷ bodies

-- what lines say, in order
abbrev pub ReadsAll : (before : Chain) → (lines bodies : List (List ℕ)) → (after : Chain) → Type 0
ReadsAll before [] bodies after = (bodies ≡ []) × (after ≡ before)
ReadsAll before (line ∷ lines) bodies after =
    (mid : Chain) × (body : Option (List ℕ)) × (others : List (List ℕ)) × Reads before line body mid
    × (bodies ≡ in_front body others) × ReadsAll mid lines others after

-- the line ends in the seal that it has to have: its own, or that of the mark
abbrev pub IsClosed : Chain → (line : List ℕ) → Type 0
IsClosed before line = (body : List ℕ) × (line ≡ sealed before.seal body) × (before.is_sealed ≡ false → body ≡ [])

-- The rest, which no LF ends, may be what a write left that broke off: it is shorter than the longest line, its bytes are
-- those of lines, and it isn't a line with another byte in the place of its LF.
pub record IsTorn (before : Chain) (rest : List ℕ) : Type 0 where
  pub short : length rest < LONGEST_LINE
  pub shown : AllByRecursion IsShown rest
  pub unclosed : (line : List ℕ) (byte : ℕ) → rest ≡ line ++ byte ∷ [] → IsClosed before line → ⊥
