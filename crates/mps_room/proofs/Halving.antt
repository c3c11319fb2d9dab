-- Where a list of places that rise is halved.
use Rattle.std.proofs.Common.{◌≡◌, ℕ, zero, suc, ◌-◌, ◌<◌, ◌≤◌, Bool, true, false, List, [], ◌∷◌, ◌++◌, length, get_or, take, drop, refl, ap, ◌∙◌, subst, arith, ltb, lt-ltb, le-ltb, length-append}
use Rattle.std.specs.List.{AllByRecursion}
use Rattle.std.specs.List.Sorted.{IsPartitionedBy, IsPartitionPoint}
use Rattle.std.proofs.lemmas.Bool.{cases_lt}

all_at : (P : ℕ → Type 0) (l : List ℕ) (i d : ℕ) → AllByRecursion P l → i < length l → P (get_or l i d)
all_at P [] i d all within = absurd (omega arith)
all_at P (x ∷ l) zero d all within = all.0
all_at P (x ∷ l) (suc i) d all within = all_at P l i d all.1 (omega arith)

-- an element of the first part, or of the second
front : (P : ℕ → Type 0) (a b : List ℕ) (i d : ℕ) → AllByRecursion P a → i < length a → P (get_or (a ++ b) i d)
front P [] b i d all within = absurd (omega arith)
front P (x ∷ a) b zero d all within = all.0
front P (x ∷ a) b (suc i) d all within = front P a b i d all.1 (omega arith)

back : (P : ℕ → Type 0) (a b : List ℕ) (i d : ℕ) → AllByRecursion P b → length a ≤ i → i < length (a ++ b) → P (get_or (a ++ b) i d)
back P [] b i d all behind within = all_at P b i d all within
back P (x ∷ a) b zero d all behind within = absurd (omega arith)
back P (x ∷ a) b (suc i) d all behind within = back P a b i d all (omega arith) (omega arith)

drop_front : (a b : List ℕ) → drop (length a) (a ++ b) ≡ b
drop_front [] b = refl
drop_front (x ∷ a) b = drop_front a b

take_whole : (l : List ℕ) → take (length l) l ≡ l
take_whole [] = refl
take_whole (x ∷ l) = ap (λ (k : List ℕ). x ∷ k) (take_whole l)

no_both : (b : Bool) → b ≡ true → b ≡ false → ⊥
no_both b t f = grind arith

module _ (n : ℕ) (early late : List ℕ) (below : AllByRecursion (λ k. k < n) early) (above : AllByRecursion (λ k. n ≤ k) late) where
  is_below : (i d : ℕ) → i < length early → ltb (get_or (early ++ late) i d) n ≡ true
  is_below i d within = lt-ltb _ n (front (λ k. k < n) early late i d below within)

  is_above : (i d : ℕ) → length early ≤ i → i < length (early ++ late) → ltb (get_or (early ++ late) i d) n ≡ false
  is_above i d behind within = le-ltb _ n (back (λ k. n ≤ k) early late i d above behind within)

  point_is : (i : ℕ) → i ≤ length (early ++ late) → IsPartitionPoint (λ k. ltb k n ≡ true) (λ k. ltb k n ≡ false) (early ++ late) i → i ≡ length early
  point_is i few point = grind (arith, length-append, cases_lt, no_both, is_below, is_above)

  rest_is : (i : ℕ) → i ≡ length early → take (length (early ++ late) - i) (drop i (early ++ late)) ≡ late
  rest_is i e = grind (arith, length-append early late, drop_front early late, take_whole late)

pub parted : (n : ℕ) (places early late : List ℕ) → places ≡ early ++ late → AllByRecursion (λ k. k < n) early → AllByRecursion (λ k. n ≤ k) late → IsPartitionedBy (λ k. ltb k n) places
parted n places early late is below above = grind (arith, cases_lt, lt-ltb, front, le-ltb, back)

-- what lies behind the point is what isn't below
pub at_point : (n : ℕ) (places early late : List ℕ) (i : ℕ) → places ≡ early ++ late → AllByRecursion (λ k. k < n) early → AllByRecursion (λ k. n ≤ k) late → i ≤ length places → IsPartitionPoint (λ k. ltb k n ≡ true) (λ k. ltb k n ≡ false) places i → take (length places - i) (drop i places) ≡ late
at_point n places early late i is below above few point =
    ap (λ (l : List ℕ). take (length l - i) (drop i l)) is
    ∙ rest_is n early late below above i
    (point_is n early late below above i (subst (λ (l : List ℕ). i ≤ length l) is few) (subst (λ (l : List ℕ). IsPartitionPoint (λ k. ltb k n ≡ true) (λ k. ltb k n ≡ false) l i) is point))
