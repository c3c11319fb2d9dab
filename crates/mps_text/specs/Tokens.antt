-- How a text is cut into tokens. A token is its bytes.
use Rattle.std.specs.Prelude.{◌≡◌, ℕ, Bool, false, ◌==◌, ◌||◌, ◌⊎◌, List, [], ◌∷◌, ◌++◌, codes, IsTrue}
use Rattle.std.specs.List.{list_all, list_any}
use Rattle.std.specs.Str.{bytes_eq}
use Rattle.mps_base.specs.Names.{IsName, IsVariable, is_name_byte, is_upper, reserved_words}

-- space, tab, LF and CR
abbrev pub is_blank : ℕ → Bool
is_blank c = c == 32 || c == 9 || c == 10 || c == 13

-- what words are made of: letters, digits and `_`
abbrev pub is_word_byte : ℕ → Bool
is_word_byte c = is_name_byte c || is_upper c

-- whether a byte of that kind stands in front
abbrev pub first_is : (ℕ → Bool) → List ℕ → Bool
first_is kind [] = false
first_is kind (c ∷ cs) = kind c

-- a well-formed word: a name, a reserved word or a variable
abbrev pub IsWord : List ℕ → Type 0
IsWord bytes = IsName bytes ⊎ (IsTrue (list_any (bytes_eq bytes) reserved_words) ⊎ IsVariable bytes)

-- punctuation: the tokens that are no words
abbrev pub punctuation : List (List ℕ)
punctuation = codes "->" ∷ codes ":" ∷ codes ";" ∷ codes "." ∷ codes "," ∷ codes "{" ∷ codes "}" ∷ []

-- the token is punctuation, or a well-formed word that the bytes after it don't make longer
abbrev pub IsTokenBefore : List ℕ → List ℕ → Type 0
IsTokenBefore token rest =
    IsTrue (list_any (bytes_eq token) punctuation) ⊎ (IsWord token × (first_is is_word_byte rest ≡ false))

-- blanks, then the token, then the rest
pub record Begins (bytes token rest : List ℕ) : Type 0 where
  pub blanks : List ℕ
  pub blank : IsTrue (list_all is_blank blanks)
  pub parts : bytes ≡ blanks ++ (token ++ rest)
  pub found : IsTokenBefore token rest

-- these tokens, with any blanks before each, and then the rest
abbrev pub BeginsAll : List ℕ → List (List ℕ) → List ℕ → Type 0
BeginsAll bytes [] rest = bytes ≡ rest
BeginsAll bytes (token ∷ tokens) rest = (after : List ℕ) × Begins bytes token after × BeginsAll after tokens rest

-- these are the tokens of the text, from the first to the last
pub record AreTokensOf (text : List ℕ) (tokens : List (List ℕ)) : Type 0 where
  pub rest : List ℕ
  pub all : BeginsAll text tokens rest
  pub blank : IsTrue (list_all is_blank rest)
