-- How the names of roles, labels, slots, marks and recursion variables are spelled.
use Rattle.std.specs.Prelude.{◌≢◌, ℕ, ◌<◌, ◌≤◌, Bool, ◌==◌, nat_le, ◌&&◌, ◌||◌, List, [], ◌∷◌, ◌++◌, length, codes}
use Rattle.std.specs.Prelude.{IsTrue, slice_index}
use Rattle.std.specs.List.{AllByRecursion}

-- the bytes `a` to `z`
abbrev pub is_lower : ℕ → Bool
is_lower c = nat_le 97 c && nat_le c 122

-- the bytes `0` to `9`
abbrev pub is_digit : ℕ → Bool
is_digit c = nat_le 48 c && nat_le c 57

-- what a name is made of: small letters, digits and `_`
abbrev pub is_name_byte : ℕ → Bool
is_name_byte c = is_lower c || is_digit c || c == 95

-- the words of the protocol grammar's structure, of its sorts and of the truth values
abbrev pub structure_words : List (List ℕ)
structure_words = codes "roles" ∷ codes "rec" ∷ codes "end" ∷ []

abbrev pub sort_words : List (List ℕ)
sort_words = codes "int" ∷ codes "bool" ∷ codes "text" ∷ []

abbrev pub bool_words : List (List ℕ)
bool_words = codes "true" ∷ codes "false" ∷ []

-- the words that are no names
abbrev pub reserved_words : List (List ℕ)
reserved_words = structure_words ++ sort_words ++ bool_words

-- the bytes are none of these words
abbrev pub IsNoneOf : List (List ℕ) → List ℕ → Type 0
IsNoneOf words bytes = AllByRecursion (λ word. bytes ≢ word) words

-- 1 to 32 bytes, the first a small letter, and no reserved word
pub record IsName (bytes : List ℕ) : Type 0 where
  pub some : 0 < length bytes
  pub short : length bytes ≤ 32
  pub first : IsTrue (is_lower (slice_index bytes 0))
  pub each : AllByRecursion (λ c. IsTrue (is_name_byte c)) bytes
  pub free : IsNoneOf reserved_words bytes

-- the bytes `A` to `Z`
abbrev pub is_upper : ℕ → Bool
is_upper c = nat_le 65 c && nat_le c 90

-- what a variable is made of: capital letters, digits and `_`
abbrev pub is_variable_byte : ℕ → Bool
is_variable_byte c = is_upper c || is_digit c || c == 95

-- 1 to 32 bytes, the first a capital letter
pub record IsVariable (bytes : List ℕ) : Type 0 where
  pub some : 0 < length bytes
  pub short : length bytes ≤ 32
  pub first : IsTrue (is_upper (slice_index bytes 0))
  pub each : AllByRecursion (λ c. IsTrue (is_variable_byte c)) bytes
