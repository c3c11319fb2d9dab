-- The numbers of commands.
use Rattle.std.specs.Prelude.{◌≡◌, ℕ, ◌+◌, List, [], ◌∷◌, Option, None, Some}

-- commands that had these numbers, or none, led from one last number to another: each number is the next one
abbrev pub CountsUp : (last : ℕ) → List (Option ℕ) → (last' : ℕ) → Type 0
CountsUp last [] last' = last' ≡ last
CountsUp last (None ∷ numbers) last' = CountsUp last numbers last'
CountsUp last (Some n ∷ numbers) last' = (n ≡ last + 1) × CountsUp n numbers last'
