-- The types of the first roles.
use Rattle.std.proofs.Common.{◌≡◌, ℕ, zero, suc, ◌+◌, ◌<◌, List, [], ◌∷◌, ◌++◌, length, map, Some, Option, IsSome, slice_get, Result, IfErr, IsErrAnd, refl, sym, subst, arith}
use Rattle.std.specs.List.{AllByRecursion}
use Rattle.std.proofs.lemmas.Bool.{cases_lt}
use Rattle.mps_global.specs.Global.{GlobalType}
use Rattle.mps_local.specs.declared.Local.{Local}
use Rattle.mps_local.specs.Local.{LocalType, plain}
use Rattle.mps_local.specs.Outcome.{IsUnmerged, AreNotAll}
use Rattle.mps_local.specs.Projection.{projection}
use Rattle.mps_local.specs.declared.projection.ProjectFault.{ProjectFault}
use Rattle.mps_local.specs.declared.projection.ProjectFault.TheVariants as faults
use Rattle.mps_local.specs.declared.merging.Merging.{Merging}

get_before : {A B : Type 0} (f : A → B) (xs : List A) (x : A) (p : ℕ) → p < length xs → slice_get (map f (xs ++ x ∷ [])) p ≡ slice_get (map f xs) p
get_before f [] x p h = absurd (omega (arith, h))
get_before f (y ∷ xs) x zero h = refl
get_before f (y ∷ xs) x (suc p) h = get_before f xs x p (omega (arith, h))

get_last : {A B : Type 0} (f : A → B) (xs : List A) (x : A) → slice_get (map f (xs ++ x ∷ [])) (length xs) ≡ Some (f x)
get_last f [] x = refl
get_last f (y ∷ xs) x = get_last f xs x

pub one_more : (merging : Merging) (roles : List (List ℕ)) (tree : GlobalType) (types new : List Local) (t : Local) (place : ℕ) → length types ≡ place → new ≡ types ++ t ∷ [] → ((p : ℕ) → p < place → projection merging roles p tree ≡ slice_get (map plain types) p) → projection merging roles place tree ≡ Some (plain t) → (p : ℕ) → p < place + 1 → projection merging roles p tree ≡ slice_get (map plain new) p
one_more merging roles tree types new t place n e each last p h = grind (arith, get_before, get_last, cases_lt)

-- what holds of the types and of one more
pub one_more_holds : (P : LocalType → Type 0) (types new : List Local) (t : Local) → new ≡ types ++ t ∷ [] → AllByRecursion P (map plain types) → P (plain t) → AllByRecursion P (map plain new)
one_more_holds P types new t e all last = subst (λ (l : List Local). AllByRecursion P (map plain l)) (sym e) (behind types all)
  where
    behind : (ts : List Local) → AllByRecursion P (map plain ts) → AllByRecursion P (map plain (ts ++ t ∷ []))
    behind [] a = (last, tt)
    behind (u ∷ ts) a = (a.0, behind ts a.1)

-- each place of the types that are there has a projection
pub each_some : (merging : Merging) (roles : List (List ℕ)) (tree : GlobalType) (types : List Local) → ((p : ℕ) → p < length types → projection merging roles p tree ≡ slice_get (map plain types) p) → (p : ℕ) → p < length types → IsSome (projection merging roles p tree)
each_some merging roles tree types each p h = subst (λ (o : Option LocalType). IsSome o) (sym (each p h)) (there types p h)
  where
    there : (ts : List Local) (k : ℕ) → k < length ts → IsSome (slice_get (map plain ts) k)
    there [] k h = absurd (omega (arith, h))
    there (u ∷ ts) zero h = refl
    there (u ∷ ts) (suc k) h = there ts k (omega (arith, h))

-- the first role without a projection, where each before it has one
pub not_all : (merging : Merging) (roles : List (List ℕ)) (tree : GlobalType) (types : List Local) (place : ℕ) (fault : ProjectFault) → place < length roles → length types ≡ place → ((p : ℕ) → p < place → projection merging roles p tree ≡ slice_get (map plain types) p) → IsUnmerged merging roles place 0 tree fault → AreNotAll merging roles tree fault
not_all merging roles tree types place faults.Memory l n each h = tt
not_all merging roles tree types place (faults.Unmergeable role choice) l n each h = grind (arith, each_some)

-- a fault that `?` hands on
pub passed_on : {A F : Type 0} (r : Result A F) (P : F → Type 0) (e : F) → IsErrAnd r (λ x. x ≡ e) → P e → IfErr r P
passed_on r P e is h = grind arith
