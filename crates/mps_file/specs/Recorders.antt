-- What a recorder is asked, and answers.
use Rattle.std.specs.Prelude.{◌≡◌, ◌++◌, ◌∷◌, [], ℕ, List, codes}
use Rattle.mps_base.specs.Numbers.{IsNumberText}

-- the line, with its LF, asks for that session of that protocol
pub record AsksFor (session : ℕ) (protocol line : List ℕ) : Type 0 where
  pub digits : List ℕ
  pub number : IsNumberText digits session
  pub spelled : line ≡ codes "open " ++ digits ++ 32 ∷ protocol ++ 10 ∷ []

-- the line is the word, and then this number
pub record IsNumberAfter (word line : List ℕ) (n : ℕ) : Type 0 where
  pub digits : List ℕ
  pub spelled : line ≡ word ++ digits
  pub number : IsNumberText digits n

-- the session is the server's, and its journal has so many bytes, which follow
abbrev pub GivesJournal : List ℕ → ℕ → Type 0
GivesJournal = IsNumberAfter (codes "journal ")

-- so many bytes of the journal are kept
abbrev pub SaysKept : List ℕ → ℕ → Type 0
SaysKept = IsNumberAfter (codes "kept ")
