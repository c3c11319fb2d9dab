-- A map that keeps its keys in the order in which they were first inserted is a list of slots.
use Rattle.std.proofs.Common.{◌≡◌, ℕ, zero, suc, ◌<◌, true, false, List, [], ◌∷◌, length, Option, Some, None, refl, sym, ap, ◌∙◌, ⊎_elim, arith}
use Rattle.std.specs.Prelude.{slice_get, is_some}
use Rattle.std.specs.List.{position}
use Rattle.std.specs.Map.{keys_of, values_of, lookup, set_value, remove_entry}
use Rattle.std.specs.Str.{bytes_eq}
use Rattle.std.proofs.lemmas.Bool.{cases_Bool}
use Rattle.std.proofs.lemmas.Slice.Eq.{bytes_eq-Decides}
use Rattle.indexmap.specs.IndexMap.{insert_entry, set_value_at}
use Rattle.indexmap.proofs.MapLemmas.{Found, Found-position, insert_entry-first, some_index}
use Rattle.mps_history.specs.Slots.{bound, unbound, value_in}
use Rattle.mps_history.proofs.Slots.{same_slot}
use Rattle.mps_stores.specs.Stores.{Keys}

turned : (a b : List ℕ) → bytes_eq a b ≡ bytes_eq b a
turned a b = grind (arith, bytes_eq-Decides, same_slot, cases_Bool)

module _ (slot : List ℕ) where
  pub lookup_is_value : (store : Keys) → lookup (bytes_eq slot) store ≡ value_in slot store
  lookup_is_value [] = refl
  lookup_is_value (pair ∷ store) = cc (turned slot pair.0, lookup_is_value store)

  module _ (v : ℕ) where
    pub insert_is_bound : (store : Keys) → insert_entry bytes_eq store slot v ≡ bound slot v store
    insert_is_bound [] = refl
    insert_is_bound (pair ∷ store) =
        ⊎_elim
        (λ (yes : bytes_eq pair.0 slot ≡ true). rw (turned slot pair.0, yes) (ap (λ (name : List ℕ). (name, v) ∷ store) (same_slot pair.0 slot yes)))
        (λ (no : bytes_eq pair.0 slot ≡ false). rw (turned slot pair.0, no) (ap (λ (l : Keys). pair ∷ l) (insert_is_bound store)))
        (cases_Bool (bytes_eq pair.0 slot))

    pub set_is_unbound : (store : Keys) → set_value (bytes_eq slot) store v ≡ unbound slot (Some v) store
    set_is_unbound [] = refl
    set_is_unbound (pair ∷ store) =
        ⊎_elim
        (λ (yes : bytes_eq pair.0 slot ≡ true). rw (turned slot pair.0, yes) (ap (λ (name : List ℕ). (name, v) ∷ store) (same_slot pair.0 slot yes)))
        (λ (no : bytes_eq pair.0 slot ≡ false). rw (turned slot pair.0, no) (ap (λ (l : Keys). pair ∷ l) (set_is_unbound store)))
        (cases_Bool (bytes_eq pair.0 slot))

    -- where the slot is bound, both write the value in its place
    bound_is_unbound : (store : Keys) → is_some (value_in slot store) ≡ true → bound slot v store ≡ unbound slot (Some v) store
    bound_is_unbound [] some = absurd cc
    bound_is_unbound (pair ∷ store) some =
        ⊎_elim (λ (yes : bytes_eq pair.0 slot ≡ true). rw yes refl)
        (λ (no : bytes_eq pair.0 slot ≡ false). let rest : is_some (value_in slot store) ≡ true = rw no at some in rw no (ap (λ (l : Keys). pair ∷ l) (bound_is_unbound store rest)))
        (cases_Bool (bytes_eq pair.0 slot))

  pub remove_is_unbound : (store : Keys) → remove_entry (bytes_eq slot) store ≡ unbound slot None store
  remove_is_unbound [] = refl
  remove_is_unbound (pair ∷ store) = grind (arith, turned slot pair.0, remove_is_unbound store, cases_Bool (bytes_eq pair.0 slot))

  -- where the slot isn't bound, there is nothing to undo
  pub unbound_stays : (older : Option ℕ) (store : Keys) → value_in slot store ≡ None → unbound slot older store ≡ store
  unbound_stays older [] none = refl
  unbound_stays older (pair ∷ store) none =
      ⊎_elim
      (λ (yes : bytes_eq pair.0 slot ≡ true). absurd cc)
      (λ (no : bytes_eq pair.0 slot ≡ false). let rest : value_in slot store ≡ None = rw no at none in rw no (ap (λ (l : Keys). pair ∷ l) (unbound_stays older store rest)))
      (cases_Bool (bytes_eq pair.0 slot))

  -- what stands at the slot's place is what it is bound to, and a write there binds it
  module _ (store : Keys) (place : ℕ) (at : position (bytes_eq slot) (keys_of store) ≡ Some place) where
    there : Found (bytes_eq slot) store place
    there = Found-position (bytes_eq slot) store place at

    pub value_there : slice_get (values_of store) place ≡ value_in slot store
    value_there = sym there.value ∙ lookup_is_value store

    pub bound_there : (v : ℕ) → set_value_at store place v ≡ bound slot v store
    bound_there v = sym (insert_entry-first bytes_eq slot v store place there.first) ∙ insert_is_bound v store

    pub unbound_there : (v : ℕ) → set_value_at store place v ≡ unbound slot (Some v) store
    unbound_there v = bound_there v ∙ bound_is_unbound v store (sym (ap is_some (lookup_is_value store)) ∙ sym (some_index (bytes_eq slot) store) ∙ ap is_some at)

-- a write after the last slot changes nothing
pub nothing_behind : (v : ℕ) (store : Keys) (place : ℕ) → ¬ (place < length store) → store ≡ set_value_at store place v
nothing_behind v [] place h = refl
nothing_behind v (pair ∷ store) zero h = absurd (h (omega arith))
nothing_behind v (pair ∷ store) (suc place) h = ap (λ (l : Keys). pair ∷ l) (nothing_behind v store place (λ less. h (omega (arith, less))))
