-- Sessions of one protocol have the same types.
use Rattle.std.proofs.Common.{◌≡◌, ℕ, zero, suc, ◌<◌, List, [], ◌∷◌, length, refl, arith}
use mathlib.Core.Path.{ap₂}
use Rattle.std.specs.Prelude.{slice_get}
use Rattle.mps_global.specs.Global.{GlobalType}
use Rattle.mps_local.specs.Local.{LocalType}
use Rattle.mps_local.specs.Outcome.{AreProjections}
use Rattle.mps_local.specs.declared.merging.Merging.{Merging}

same_places : (s t : List LocalType) → length s ≡ length t → ((p : ℕ) → p < length s → slice_get s p ≡ slice_get t p) → s ≡ t
same_places [] [] long same = refl
same_places (x ∷ s) (y ∷ t) long same =
    let first = same zero (omega arith) in
    let heads : x ≡ y = cc in
    ap₂ (λ (z : LocalType) (l : List LocalType). z ∷ l) heads (same_places s t (omega arith) (λ p h. same (suc p) (omega arith)))
same_places other others long same = grind arith

-- a protocol has one list of projections by each kind of merging
pub one_projection : (merging : Merging) (roles : List (List ℕ)) (tree : GlobalType) (s t : List LocalType) → AreProjections merging roles tree s → AreProjections merging roles tree t → s ≡ t
one_projection merging roles tree s t es et = grind (arith, same_places)
