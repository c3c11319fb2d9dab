-- How a text stands as a value in the line of an event.
use Rattle.std.specs.Prelude.{ℕ, Bool, List, [], ◌∷◌, ◌++◌, ◌+◌, ◌/◌, ◌%◌, ◌==◌, ◌||◌, ◌&&◌, if◌then◌else◌, nat_lt, nat_le, flat_map}

-- the digit of sixteen with that value
abbrev pub digit : ℕ → ℕ
digit d = if nat_lt d 10 then 48 + d else 87 + d

-- whether a byte is from the space to `~`
abbrev pub is_shown : ℕ → Bool
is_shown b = nat_le 32 b && nat_le b 126

-- a byte within quotation marks: `"` and `\` with `\` in front, and one that isn't shown by `\x` and two digits
abbrev pub escaped : ℕ → List ℕ
escaped b =
    if (b == 34 || b == 92) then (92 ∷ b ∷ [])
    else (if is_shown b then (b ∷ []) else (92 ∷ 120 ∷ digit (b / 16) ∷ digit (b % 16) ∷ []))

-- a text in quotation marks
abbrev pub quoted : List ℕ → List ℕ
quoted bytes = 34 ∷ flat_map escaped bytes ++ 34 ∷ []
