-- Slots and what each is bound to, in the order in which the slots were first bound.
use Rattle.std.specs.Prelude.{ℕ, if◌then◌else◌, List, [], ◌∷◌, Option, Some, None}
use Rattle.std.specs.Option.{option_map_or}
use Rattle.std.specs.Str.{bytes_eq}

-- the list with the slot bound to that: in its place where the slot is known, else last
abbrev pub bound : {A : Type 0} → List ℕ → A → List (List ℕ × A) → List (List ℕ × A)
bound slot value [] = (slot, value) ∷ []
bound slot value (entry ∷ entries) =
    if bytes_eq entry.0 slot then (slot, value) ∷ entries else entry ∷ bound slot value entries

-- what the slot is bound to
abbrev pub value_in : {A : Type 0} → List ℕ → List (List ℕ × A) → Option A
value_in slot [] = None
value_in slot (entry ∷ entries) = if bytes_eq entry.0 slot then Some entry.1 else value_in slot entries

-- the list with a known slot bound to an older value, in its place, or removed where there was none
abbrev pub unbound : {A : Type 0} → List ℕ → Option A → List (List ℕ × A) → List (List ℕ × A)
unbound slot older [] = []
unbound slot older (entry ∷ entries) =
    if bytes_eq entry.0 slot then option_map_or (λ value. (slot, value) ∷ entries) older entries
    else entry ∷ unbound slot older entries
