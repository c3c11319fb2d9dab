-- Labels, and what stands after them.
use Rattle.std.proofs.Common.{◌≡◌, ◌≢◌, ℕ, zero, suc, ⊎_elim, Bool, true, false, cond, List, [], ◌∷◌, length, Some, refl, sym, ap, subst}
use Rattle.std.specs.Prelude.{slice_get}
use Rattle.std.specs.List.{AllByRecursion}
use Rattle.std.specs.Str.{bytes_eq}
use Rattle.std.proofs.lemmas.Bool.{cases_Bool}
use Rattle.mps_base.specs.RoleLists.{AreDistinct}
use Rattle.mps_local.specs.Local.{LocalType, Branches, NoMore, More}
use Rattle.mps_local.specs.Actions.{branch_at, labels, nexts}
use Rattle.mps_local.proofs.Equal.{name_same, name_is}

pub paired : (b : Branches) → length (nexts b) ≡ length (labels b)
paired NoMore = refl
paired (More l t others) = ap suc (paired others)

-- what all are, the one at that place is
all_at : (R : List ℕ → Type 0) (xs : List (List ℕ)) (k : ℕ) (x : List ℕ) → AllByRecursion R xs → slice_get xs k ≡ Some x → R x
all_at R [] k x a e = absurd cc
all_at R (y ∷ xs) zero x a e = subst R (let k : y ≡ x = cc in k) a.0
all_at R (y ∷ xs) (suc k) x a e = all_at R xs k x a.1 e

pub lead : (b : Branches) (place : ℕ) (label : List ℕ) → AreDistinct (labels b) → slice_get (labels b) place ≡ Some label → branch_at label b ≡ slice_get (nexts b) place
lead NoMore place label d e = refl
lead (More l t others) zero label d e = cc (name_same l)
lead (More l t others) (suc place) label d e =
    let other : label ≢ l = all_at (λ x. x ≢ l) (labels others) place label d.0 e in
    ⊎_elim (λ (h : bytes_eq l label ≡ true). absurd (other (sym (name_is l label h))))
    (λ (h : bytes_eq l label ≡ false). rw h (lead others place label d.1 e))
    (cases_Bool (bytes_eq l label))

-- where a label stands, with what is after it
abbrev StandsAt : Branches → List ℕ → LocalType → Type 0
StandsAt b label t = (place : ℕ) × (slice_get (labels b) place ≡ Some label) × (slice_get (nexts b) place ≡ Some t)

pub placed : (b : Branches) (label : List ℕ) (t : LocalType) → branch_at label b ≡ Some t → (place : ℕ) × (slice_get (labels b) place ≡ Some label) × (slice_get (nexts b) place ≡ Some t)
placed NoMore label t e = absurd cc
placed (More l u others) label t e = by_test (bytes_eq l label) refl e (placed others label t)
  where
    by_test : (c : Bool) → bytes_eq l label ≡ c → cond c (Some u) (branch_at label others) ≡ Some t → (branch_at label others ≡ Some t → StandsAt others label t) → StandsAt (More l u others) label t
    by_test true h f again = (0, ap Some (name_is l label h), f)
    by_test false h f again = let k = again f in (suc k.0, k.1, k.2)
