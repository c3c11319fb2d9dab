-- Data in an array that is being written.
use Rattle.std.specs.Prelude.{◌≡◌, ℕ, Bool, true, ◌==◌, if◌then◌else◌, List, [], ◌∷◌, ◌++◌, map, slice_index_or}
use Rattle.std.specs.List.{flat_map}
use Rattle.mps_base.specs.declared.action.Step.{Step}
use Rattle.mps_history.specs.Steps.{numbers, steps_of}
use Rattle.serde_json.specs.Data.{Data}
use Rattle.serde_json.specs.Written.{comma_if, compact_text}
use Rattle.mps_show.specs.Shown.{number_shown}

-- the text of these, with a comma in front of each but the first of all, and without a bracket
abbrev pub joined : Bool → List Data → List ℕ
joined later [] = []
joined later (d ∷ ds) = comma_if later ++ (compact_text d ++ joined true ds)

-- whether something stands in the array then
abbrev pub behind : Bool → List Data → Bool
behind later [] = later
behind later (d ∷ ds) = true

-- the number of the step, where it is role p's
abbrev pub own_number : ℕ → Step → List Data
own_number p s = if s.role == p then number_shown s.id ∷ [] else []

-- the numbers of role p's steps, each after a comma
abbrev pub past_text : ℕ → List Step → List ℕ
past_text p h = joined true (map number_shown (numbers (steps_of p h)))

-- such texts of all roles
abbrev pub ArePasts : List (List ℕ) → List Step → Type 0
ArePasts pasts h = (p : ℕ) → slice_index_or pasts p [] ≡ past_text p h

-- words, each after a space
abbrev pub words_behind : List (List ℕ) → List ℕ
words_behind words = flat_map (λ word. 32 ∷ word) words
