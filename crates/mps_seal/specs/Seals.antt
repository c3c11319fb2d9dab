-- The seals of a journal's lines: each is over the seal before and the line.
use Rattle.std.specs.Prelude.{ℕ, List, [], ◌∷◌, ◌++◌, take}
use Rattle.hex.specs.Hex.{encode_lower}
use Rattle.sha2.specs.Sha256.{sha256}

-- a seal: the first 64 bits of the bytes' SHA-256
abbrev pub seal_of : List ℕ → List ℕ
seal_of bytes = take 8 (sha256 bytes)

-- the seal before the first line, over the protocol's text, an LF and the session's number
abbrev pub first_seal : (protocol number : List ℕ) → List ℕ
first_seal protocol number = seal_of (protocol ++ 10 ∷ number)

-- the seal of a line, after that of the line before
abbrev pub next_seal : (before line : List ℕ) → List ℕ
next_seal before line = seal_of (before ++ line)

-- how a seal stands at the end of its line: a space, and sixteen hexadecimal digits with small letters
abbrev pub seal_text : List ℕ → List ℕ
seal_text seal = 32 ∷ encode_lower seal

-- the line with its seal
abbrev pub sealed : (before line : List ℕ) → List ℕ
sealed before line = line ++ seal_text (next_seal before line)

-- the seal of the last of these lines, after that of the line before them
abbrev pub seal_after : List ℕ → List (List ℕ) → List ℕ
seal_after seal [] = seal
seal_after seal (line ∷ lines) = seal_after (next_seal seal line) lines

-- these lines, each with its seal
abbrev pub all_sealed : (before : List ℕ) → List (List ℕ) → List (List ℕ)
all_sealed seal [] = []
all_sealed seal (line ∷ lines) = sealed seal line ∷ all_sealed (next_seal seal line) lines
