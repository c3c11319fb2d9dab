-- Elements of a list in which one is set.
use Rattle.std.specs.Prelude.{All}
use Rattle.std.proofs.lemmas.Option.{slice_get_within, get_or_from_slice_get}
use Rattle.std.proofs.lemmas.List.Elements.{All-get_or}
use Rattle.std.proofs.Common.{◌≡◌, ◌≢◌, ◌<◌, ℕ, suc, zero, List, [], ◌∷◌, slice_set, slice_get, length, Some, refl, ap, arith}

pub get_set_same : {X : Type 0} (xs : List X) (i : ℕ) (x : X) → i < length xs → slice_get (slice_set xs i x) i ≡ Some x
get_set_same [] i x h = absurd (omega (arith, h))
get_set_same (a ∷ xs) zero x h = refl
get_set_same (a ∷ xs) (suc i) x h = get_set_same xs i x (omega (arith, h))

pub get_set_other : {X : Type 0} (xs : List X) (i j : ℕ) (x : X) → j ≢ i → slice_get (slice_set xs i x) j ≡ slice_get xs j
get_set_other [] i j x n = refl
get_set_other (a ∷ xs) zero zero x n = absurd (n refl)
get_set_other (a ∷ xs) zero (suc j) x n = refl
get_set_other (a ∷ xs) (suc i) zero x n = refl
get_set_other (a ∷ xs) (suc i) (suc j) x n = get_set_other xs i j x (λ e. n (ap suc e))

-- a name that is found isn't one that none is
pub found_is_named : (names : List (List ℕ)) (place : ℕ) (name : List ℕ) → slice_get names place ≡ Some name → All (λ (other : List ℕ). other ≢ name) names → ⊥
found_is_named names place name found none =
    All-get_or (λ (other : List ℕ). other ≢ name) names place name (slice_get_within names place name found) none (get_or_from_slice_get names place name name found)
