-- Names that steps bind: a receipt binds its slot, a mark its own name. Each role's names, each with the key of the
-- step that bound it last, in the order in which they were first bound.
use Rattle.std.specs.Prelude.{◌≡◌, ℕ, ◌<◌, ◌==◌, if◌then◌else◌, List, [], ◌∷◌, ◌++◌, Option, None, Some, slice_index_or}
use Rattle.std.specs.Option.{option_map_or}
use Rattle.mps_base.specs.declared.action.Act.{Act}
use Rattle.mps_base.specs.declared.action.Act.TheVariants.{In, Mark}
use Rattle.mps_history.specs.Slots.{bound, value_in}
use Rattle.mps_arena.specs.KeyedSteps.{KeyedStep}

abbrev pub Keys : Type 0
Keys = List (List ℕ × ℕ)

-- the store of role p
abbrev pub store_at : List Keys → ℕ → Keys
store_at stores p = slice_index_or stores p []

-- which name an act binds, if it binds one
abbrev pub Naming : Type 0
Naming = Act → Option (List ℕ)

-- the slot into which the act receives a value
abbrev pub slot_of : Naming
slot_of (In from slot) = slot
slot_of act = None

-- the name that the act marks
abbrev pub mark_of : Naming
mark_of (Mark name) = Some name
mark_of act = None

-- a step of role p that binds the name
abbrev pub IsBinding : Naming → ℕ → List ℕ → KeyedStep → Type 0
IsBinding naming p name e = (e.step.role ≡ p) × (naming e.step.act ≡ Some name)

-- the store of role p after the keyed step: a step of p that binds a name binds it to its key
abbrev pub store_after : Naming → ℕ → Keys → KeyedStep → Keys
store_after naming p store e =
    if e.step.role == p then option_map_or (λ name. bound name e.key store) (naming e.step.act) store else store

-- the store of role p after the keyed steps, the oldest first
abbrev pub rebound : Naming → ℕ → Keys → List KeyedStep → Keys
rebound naming p store [] = store
rebound naming p store (e ∷ es) = rebound naming p (store_after naming p store e) es

-- the same, from an empty one
abbrev pub bindings : Naming → ℕ → List KeyedStep → Keys
bindings naming p es = rebound naming p [] es

-- each step that binds a name keeps to what the name was bound right before it
abbrev pub AreTraced : Naming → List KeyedStep → Type 0
AreTraced naming es =
    (p : ℕ) (name : List ℕ) (a b : List KeyedStep) (e : KeyedStep) → es ≡ a ++ e ∷ b → IsBinding naming p name e
    → e.before.bound ≡ value_in name (bindings naming p a)

-- the stores are those of these keyed steps, and each binding can be undone
pub record AreStores (naming : Naming) (es : List KeyedStep) (stores : List Keys) : Type 0 where
  pub each : (p : ℕ) → p < 8 → store_at stores p ≡ bindings naming p es
  pub traced : AreTraced naming es
