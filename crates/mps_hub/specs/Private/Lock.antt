-- The rule of a value that one thread at a time has, and that is at home as it was at first.
use Rattle.std.specs.Prelude.{◌≡◌, ℕ, Bool, true, false, [], ◌∷◌, ⊤}
use mathlib.Core.Option as maybe
use Rattle.atomic_table.specs.Table.{State, Me, Step}

-- the word: 1 while the value is out
abbrev pub word_of : Bool → ℕ
word_of false = 0
word_of true = 1

-- the value, where it is at home
abbrev pub home_of : {T : Type 0} → T → Bool → maybe.Option T
home_of value false = maybe.some value
home_of value true = maybe.none

-- the one word says whether the value is out, and at home it is this one
pub record IsSteady {T : Type 0} (value : T) (s : State T T) : Type 0 where
  pub out : Bool
  pub words : s.words ≡ word_of out ∷ []
  pub homes : s.homes ≡ home_of value out ∷ []

-- the seat has the value out
abbrev pub HasOut : {T : Type 0} → T → Me T T → Type 0
HasOut value me = me.1 ≡ (0, value) ∷ []

-- a new seat that finds the word 0 has the value out, as it was at first
abbrev pub TakesOut : {T : Type 0} → Step T → Me T T → ℕ → Me T T → Type 0
TakesOut st first found me = found ≡ 0 → HasOut first.0 me

-- a seat that puts the value back is told nothing
abbrev pub PutsBack : {T : Type 0} → Step T → Me T T → ℕ → Me T T → Type 0
PutsBack st me n me' = ⊤
