-- Tokens with one space between two.
use Rattle.std.specs.Prelude.{ℕ, ◌++◌, List, [], ◌∷◌}

-- the tokens, joined by one space
abbrev pub spaced : List (List ℕ) → List ℕ
spaced [] = []
spaced (token ∷ []) = token
spaced (token ∷ tokens) = token ++ 32 ∷ spaced tokens

-- a token after the bytes, with a space between where there are some
abbrev pub with_token : List ℕ → List ℕ → List ℕ
with_token [] token = token
with_token bytes token = bytes ++ 32 ∷ token

-- the tokens after the bytes, one after the other
abbrev pub with_tokens : List ℕ → List (List ℕ) → List ℕ
with_tokens bytes [] = bytes
with_tokens bytes (token ∷ tokens) = with_tokens (with_token bytes token) tokens
