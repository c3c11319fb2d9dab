-- When trees are equal.
use Rattle.std.proofs.Common.{arith, ◌≡◌, ℕ, true, List, refl, ap, subst}
use Rattle.std.specs.Prelude.{◌&&◌, ◌==◌}
use Rattle.std.specs.Str.{bytes_eq}
use Rattle.std.proofs.lemmas.Bool.{cases_Bool, and_parts, and_from, eqb-true, eq-eqb}
use Rattle.std.proofs.lemmas.Slice.Eq.{bytes_eq-Decides}
use Rattle.mps_base.specs.Sorts.{same_sort}
use Rattle.mps_base.specs.declared.value.Sort.{Sort}
use Rattle.mps_local.specs.Local.{LocalType, Branches, End, Var, Rec, Send, Recv, Select, Branch, NoMore, More}
use Rattle.mps_local.specs.Merged.{same, same_branches}

pub name_same : (x : List ℕ) → bytes_eq x x ≡ true
name_same x = (bytes_eq-Decides x x).1 refl

pub name_is : (x y : List ℕ) → bytes_eq x y ≡ true → x ≡ y
name_is x y e = (bytes_eq-Decides x y).0 e

pub name_turned : (x y : List ℕ) → bytes_eq x y ≡ bytes_eq y x
name_turned x y = grind (arith, bytes_eq-Decides, name_is, cases_Bool)

pub same_sort_is : (s t : Sort) → same_sort s t ≡ true → s ≡ t
same_sort_is s t e = grind arith

pub sort_same : (s : Sort) → same_sort s s ≡ true
sort_same s = grind arith

mutual
  -- trees that the test finds the same are equal
  pub same_is : (t u : LocalType) → same t u ≡ true → t ≡ u
  same_is End End e = refl
  same_is (Var x) (Var y) e = ap Var (name_is x y e)
  same_is (Rec x t) (Rec y u) e =
      let k = and_parts (bytes_eq x y) (same t u) e in
      let a = name_is x y k.0 in let b = same_is t u k.1 in cc
  same_is (Send p s t) (Send q r u) e =
      let k = and_parts (p == q && same_sort s r) (same t u) e in
      let l = and_parts (p == q) (same_sort s r) k.0 in
      let a = eqb-true p q l.0 in let b = same_sort_is s r l.1 in let c = same_is t u k.1 in cc
  same_is (Recv p s t) (Recv q r u) e =
      let k = and_parts (p == q && same_sort s r) (same t u) e in
      let l = and_parts (p == q) (same_sort s r) k.0 in
      let a = eqb-true p q l.0 in let b = same_sort_is s r l.1 in let c = same_is t u k.1 in cc
  same_is (Select p ts) (Select q us) e =
      let k = and_parts (p == q) (same_branches ts us) e in
      let a = eqb-true p q k.0 in let b = same_branches_is ts us k.1 in cc
  same_is (Branch p ts) (Branch q us) e =
      let k = and_parts (p == q) (same_branches ts us) e in
      let a = eqb-true p q k.0 in let b = same_branches_is ts us k.1 in cc
  same_is t u e = absurd cc

  pub same_branches_is : (ts us : Branches) → same_branches ts us ≡ true → ts ≡ us
  same_branches_is NoMore NoMore e = refl
  same_branches_is (More l t ts) (More m u us) e =
      let k = and_parts (bytes_eq l m && same t u) (same_branches ts us) e in
      let n = and_parts (bytes_eq l m) (same t u) k.0 in
      let a = name_is l m n.0 in let b = same_is t u n.1 in let c = same_branches_is ts us k.1 in cc
  same_branches_is ts us e = absurd cc

mutual
  -- the test finds each tree the same as itself
  pub is_same : (t : LocalType) → same t t ≡ true
  is_same End = refl
  is_same (Var x) = name_same x
  is_same (Rec x t) = and_from (bytes_eq x x) (same t t) (name_same x) (is_same t)
  is_same (Send p s t) =
      and_from (p == p && same_sort s s) (same t t) (and_from (p == p) (same_sort s s) (eq-eqb p p refl) (sort_same s)) (is_same t)
  is_same (Recv p s t) =
      and_from (p == p && same_sort s s) (same t t) (and_from (p == p) (same_sort s s) (eq-eqb p p refl) (sort_same s)) (is_same t)
  is_same (Select p ts) = and_from (p == p) (same_branches ts ts) (eq-eqb p p refl) (are_same ts)
  is_same (Branch p ts) = and_from (p == p) (same_branches ts ts) (eq-eqb p p refl) (are_same ts)

  pub are_same : (ts : Branches) → same_branches ts ts ≡ true
  are_same NoMore = refl
  are_same (More l t ts) =
      and_from (bytes_eq l l && same t t) (same_branches ts ts) (and_from (bytes_eq l l) (same t t) (name_same l) (is_same t)) (are_same ts)

pub same_of_equal : (t u : LocalType) → t ≡ u → same t u ≡ true
same_of_equal t u e = subst (λ (x : LocalType). same t x ≡ true) e (is_same t)

pub same_of_equal_branches : (ts us : Branches) → ts ≡ us → same_branches ts us ≡ true
same_of_equal_branches ts us e = subst (λ (x : Branches). same_branches ts x ≡ true) e (are_same ts)
