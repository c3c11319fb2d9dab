-- The place of a name among others.
use Rattle.std.proofs.Common.{◌≡◌, ◌≢◌, get_or, ℕ, suc, ◌+◌, ◌<◌, ◌≤◌, Bool, true, false, ◌||◌, cond, List, [], ◌∷◌, length, None, Some, arith}
use Rattle.std.specs.Prelude.{position, not}
use Rattle.std.specs.List.{list_any, position_or_len}
use Rattle.std.specs.Str.{bytes_eq}
use Rattle.std.proofs.lemmas.List.Quantifiers.{position-Some}
use Rattle.std.proofs.lemmas.Slice.Eq.{bytes_eq-Decides}
use Rattle.std.proofs.lemmas.Bool.Decides.{nat_tests}
use Rattle.std.proofs.lemmas.List.Sums.{prefix_len-le-length}

-- where one was found, it is that place
pub found_place : {X : Type 0} (p : X → Bool) (xs : List X) (place : ℕ) → position p xs ≡ Some place → (place ≡ position_or_len p xs) × (place ≤ length xs)
found_place p xs place h = grind (arith, prefix_len-le-length)

-- where none was found, it is their number
pub no_place : {X : Type 0} (p : X → Bool) (xs : List X) → position p xs ≡ None → length xs ≡ position_or_len p xs
no_place p xs h = grind (arith, prefix_len-le-length, nat_tests)

found_step : (b c : Bool) (i n : ℕ) → (c ≡ true → i < n) → (b || c) ≡ true → cond (not b) (1 + i) 0 < suc n
found_step b c i n ih h = grind arith

-- a test that an element passes has a first one
pub place_below : {X : Type 0} (p : X → Bool) (xs : List X) → list_any p xs ≡ true → position_or_len p xs < length xs
place_below p [] h = cc
place_below p (x ∷ xs) h = found_step (p x) (list_any p xs) (position_or_len p xs) (length xs) (place_below p xs) h

-- two roles have two places
pub places_differ : (roles : List (List ℕ)) (one other : List ℕ) → list_any (bytes_eq one) roles ≡ true → list_any (bytes_eq other) roles ≡ true → bytes_eq one other ≡ false → position_or_len (bytes_eq one) roles ≢ position_or_len (bytes_eq other) roles
places_differ roles one other h k apart same =
    let i = position_or_len (bytes_eq one) roles in
    let j = position_or_len (bytes_eq other) roles in
    let below_i = place_below (bytes_eq one) roles h in
    let below_j = place_below (bytes_eq other) roles k in
    let at_i : position (bytes_eq one) roles ≡ Some i = grind (arith, nat_tests) in
    let at_j : position (bytes_eq other) roles ≡ Some j = grind (arith, nat_tests) in
    grind (arith, position-Some (bytes_eq one) roles i [] at_i, position-Some (bytes_eq other) roles j [] at_j, bytes_eq-Decides one (get_or roles i []), bytes_eq-Decides other (get_or roles j []), bytes_eq-Decides one other)
