-- Distinct names stand in one place each.
use Rattle.std.proofs.Common.{◌≡◌, ◌≢◌, ℕ, zero, suc, List, [], ◌∷◌, Some, refl, ap, sym, ◌∙◌}
use Rattle.std.specs.Prelude.{All, slice_get}
use Rattle.std.specs.List.{AllByRecursion}
use Rattle.std.proofs.lemmas.List.Elements.{recursion_from_All}
use Rattle.std.proofs.lemmas.Option.{same_Some}
use Rattle.mps_base.specs.RoleLists.{AreDistinct}

no_place_by : (names : List (List ℕ)) (name : List ℕ) (i : ℕ) → AllByRecursion (λ other. other ≢ name) names → slice_get names i ≡ Some name → ⊥
no_place_by [] name i h e = absurd cc
no_place_by (n ∷ ns) name zero h e = h.0 (same_Some n name e)
no_place_by (n ∷ ns) name (suc i) h e = no_place_by ns name i h.1 e

-- a name that no place has
pub no_place : (names : List (List ℕ)) (name : List ℕ) (i : ℕ) → All (λ other. other ≢ name) names → slice_get names i ≡ Some name → ⊥
no_place names name i h e = no_place_by names name i (recursion_from_All _ names h) e

-- a name that two places have
pub one_place : (names : List (List ℕ)) (name : List ℕ) (i j : ℕ) → AreDistinct names → slice_get names i ≡ Some name → slice_get names j ≡ Some name → i ≡ j
one_place [] name i j d p q = absurd cc
one_place (n ∷ ns) name zero zero d p q = refl
one_place (n ∷ ns) name zero (suc j) d p q = absurd (no_place_by ns n j d.0 (q ∙ sym p))
one_place (n ∷ ns) name (suc i) zero d p q = absurd (no_place_by ns n i d.0 (p ∙ sym q))
one_place (n ∷ ns) name (suc i) (suc j) d p q = ap suc (one_place ns name i j d.1 p q)
