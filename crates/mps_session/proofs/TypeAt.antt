-- Types by their places.
use Rattle.std.proofs.Common.{◌≡◌, ℕ, zero, suc, ◌<◌, List, [], ◌∷◌, length, get_or, map, refl, ap, arith}
use Rattle.mps_local.specs.Local.{LocalType}
use Rattle.mps_machine.specs.View.{type_at}

pub type_at-map : {A : Type 0} (f : A → LocalType) (types : List A) (p : ℕ) (d : A) → p < length types → type_at (map f types) p ≡ f (get_or types p d)
type_at-map f [] p d h = absurd (omega arith)
type_at-map f (t ∷ types) zero d h = refl
type_at-map f (t ∷ types) (suc p) d h = type_at-map f types p d (omega arith)

pub length_map : {A B : Type 0} (f : A → B) (xs : List A) → length (map f xs) ≡ length xs
length_map f [] = refl
length_map f (x ∷ xs) = ap suc (length_map f xs)
