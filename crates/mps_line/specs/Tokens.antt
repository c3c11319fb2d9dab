-- The tokens of a line, with one space between two.
use Rattle.std.specs.Prelude.{◌≡◌, ℕ, ◌<◌, ◌^◌, List, [], ◌∷◌, Some, ⊤, slice_get}
use Rattle.mps_base.specs.Names.{IsName}
use Rattle.mps_base.specs.Numbers.{IsNumberText}
use Rattle.mps_base.specs.Spaced.{spaced}
use Rattle.mps_base.specs.Values.{SpellsValue}
use Rattle.mps_base.specs.declared.value.Value.{Value}
use Rattle.mps_command.specs.Shown.{IsShownText}

-- a token of a line: a fixed word, the name of the role at that place, another name, a number, a value or a shown
-- session
pub data Token : Type 0 where
  Word : (letters : List ℕ) → Token
  RoleAt : (place : ℕ) → Token
  Called : (name : List ℕ) → Token
  Number : (n : ℕ) → Token
  Worth : (value : Value) → Token
  Show : (text : List ℕ) → Token

-- these bytes are the role's name
pub record SpellsRole (names : List (List ℕ)) (bytes : List ℕ) (role : ℕ) : Type 0 where
  pub name : IsName bytes
  pub place : slice_get names role ≡ Some bytes

-- these bytes are the name
pub record SpellsName (bytes name : List ℕ) : Type 0 where
  pub is : bytes ≡ name
  pub allowed : IsName bytes

-- the digits of the number, which is below 2^64
pub record SpellsNumber (bytes : List ℕ) (n : ℕ) : Type 0 where
  pub small : n < 2 ^ 64
  pub number : IsNumberText bytes n

-- these bytes are the text of a shown session
pub record SpellsShow (bytes text : List ℕ) : Type 0 where
  pub is : bytes ≡ text
  pub allowed : IsShownText bytes

-- the bytes spell the token; the roles have these names
abbrev pub SpellsToken : (names : List (List ℕ)) → List ℕ → Token → Type 0
SpellsToken names bytes (Word letters) = bytes ≡ letters
SpellsToken names bytes (RoleAt place) = SpellsRole names bytes place
SpellsToken names bytes (Called name) = SpellsName bytes name
SpellsToken names bytes (Number n) = SpellsNumber bytes n
SpellsToken names bytes (Worth value) = SpellsValue bytes value
SpellsToken names bytes (Show text) = SpellsShow bytes text

-- each spells the token in its place, and there are as many of both
abbrev pub SpellEach : (names : List (List ℕ)) → List (List ℕ) → List Token → Type 0
SpellEach names [] [] = ⊤
SpellEach names (bytes ∷ others) (token ∷ tokens) = SpellsToken names bytes token × SpellEach names others tokens
SpellEach names spellings tokens = ⊥

-- a line of these tokens: their spellings, joined by one space
pub record SpellsLine (names : List (List ℕ)) (bytes : List ℕ) (tokens : List Token) : Type 0 where
  pub spellings : List (List ℕ)
  pub joined : bytes ≡ spaced spellings
  pub each : SpellEach names spellings tokens
