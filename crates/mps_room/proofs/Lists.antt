-- Lists of lists, place by place.
use Rattle.std.proofs.Common.{◌≡◌, ℕ, zero, suc, ◌<◌, List, [], ◌∷◌, length, map, get_or, refl, ap, ◌∙◌, arith}

-- where each list has the same elements, all have
pub map_alike : {V : Type 0} (f : V → List ℕ) (xs ys : List V) → length ys ≡ length xs → ((p : ℕ) (d : V) → f (get_or ys p d) ≡ f (get_or xs p d)) → map f ys ≡ map f xs
map_alike f [] [] long each = refl
map_alike f (x ∷ xs) (y ∷ ys) long each =
    ap (λ (l : List ℕ). l ∷ map f ys) (each 0 x) ∙ ap (λ (l : List (List ℕ)). f x ∷ l) (map_alike f xs ys (omega (arith, long)) (λ p d. each (suc p) d))
map_alike f other others long each = grind arith

-- what holds of each list that there is holds of its elements
pub map_each : {V : Type 0} (f : V → List ℕ) (K : ℕ → Type 0) (G : ℕ → List ℕ → List ℕ) (xs ys : List V) → length ys ≡ length xs → ((p : ℕ) (d : V) → K p → f (get_or ys p d) ≡ G p (f (get_or xs p d))) → (p : ℕ) → K p → p < length xs → get_or (map f ys) p [] ≡ G p (get_or (map f xs) p [])
map_each f K G [] ys long each p known within = absurd (omega arith)
map_each f K G (x ∷ xs) [] long each p known within = absurd (omega (arith, long))
map_each f K G (x ∷ xs) (y ∷ ys) long each zero known within = each 0 x known
map_each f K G (x ∷ xs) (y ∷ ys) long each (suc p) known within = map_each f (λ q. K (suc q)) (λ q. G (suc q)) xs ys (omega (arith, long)) (λ q d. each (suc q) d) p known (omega arith)
