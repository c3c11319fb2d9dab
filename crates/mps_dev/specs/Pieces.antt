-- What a source over memory has left to give.
use Rattle.std.specs.Prelude.{ℕ, ◌+◌, ◌≤◌, Bool, true, false, List, [], ◌∷◌, drop, filter, Option, None, Some}

-- the pieces that a source over memory has left, the call from which on all fail, and its calls:
-- those that were answered by bytes or had no room, those that ended, and those that failed
pub record Script : Type 0 where
  pub pieces : List (List ℕ)
  pub fails_from : Option ℕ
  pub answered : ℕ
  pub ends : ℕ
  pub failed_calls : ℕ

-- how many times the source was read from
abbrev pub calls_of : Script → ℕ
calls_of s = s.answered + s.ends + s.failed_calls

-- whether a piece has bytes
abbrev pub has_bytes : List ℕ → Bool
has_bytes [] = false
has_bytes (byte ∷ bytes) = true

-- the pieces that have bytes
abbrev pub non_empty : List (List ℕ) → List (List ℕ)
non_empty pieces = filter has_bytes pieces

-- the piece that is read next, with no bytes where none is left
abbrev pub first_piece : List (List ℕ) → List ℕ
first_piece [] = []
first_piece (piece ∷ pieces) = piece

-- the pieces without the first n bytes of the first
abbrev pub past : ℕ → List (List ℕ) → List (List ℕ)
past n [] = []
past n (piece ∷ pieces) = drop n piece ∷ pieces

-- what is left of the pieces past the first `next` of them and `given` bytes of the one after
abbrev pub left_from : ℕ → ℕ → List (List ℕ) → List (List ℕ)
left_from next given pieces = non_empty (past given (drop next pieces))

-- a call fails where calls fail from it on, or from an earlier one on
abbrev pub IsFailingCall : Option ℕ → ℕ → Type 0
IsFailingCall None call = ⊥
IsFailingCall (Some first) call = first ≤ call
