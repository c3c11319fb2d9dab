-- The loops and the labels of the projections of a protocol without faults.
use Rattle.std.proofs.Common.{arith, ◌≡◌, ℕ, Bool, true, false, List, [], ◌∷◌, length, cond, Some, None, refl, sym, ap, ◌∙◌, subst}
use Rattle.std.specs.Prelude.{◌||◌, ◌&&◌, ◌++◌, ◌==◌, nat_lt, not}
use Rattle.std.specs.List.{list_any}
use Rattle.std.specs.Str.{bytes_eq}
use Rattle.std.proofs.lemmas.Bool.Decides.{Decides-eqb}
use Rattle.mps_base.specs.declared.value.Sort.{Sort}
use Rattle.mps_global.specs.Global as global
use Rattle.mps_global.specs.Global.{GlobalType}
use Rattle.mps_global.specs.Path.{Edge, Loop, Act, binds, is_bound}
use Rattle.mps_global.specs.Faults.{labels as tree_labels, has_double, places, branch_places, first_true, pair_tests, label_tests, rec_tests, tests_at, first_fault, fault_of}
use Rattle.mps_global.specs.declared.faults.GlobalFault.TheVariants as faults
use Rattle.mps_global.proofs.Sound.{sound_protocol}
use Rattle.mps_global.proofs.Walks.{first_of_both}
use Rattle.mps_local.specs.Local.{LocalType, Branches, End, Var, Send, Recv, Select, Branch, NoMore}
use Rattle.mps_local.specs.Actions.{labels}
use Rattle.mps_local.specs.Loops.{are_labels}
use Rattle.mps_local.specs.Merged.{merged}
use Rattle.mps_local.specs.Projection.{place_of, with_message, with_choice, projection, projections}
use Rattle.mps_local.specs.declared.merging.Merging.{Merging}
use Rattle.mps_local.specs.Shape.{IsOtherRole}
use Rattle.mps_local.proofs.Apart.{AreApart, AllApart, AllBranchesApart, all_apart, both_none, both_pass}
use Rattle.mps_local.proofs.Formed.{IsFormed, AreFormed, merged_formed}
use Rattle.mps_local.proofs.Silence.{RecParts, idle, busy, rec_parts, more_parts, busy_guarded}
use Rattle.mps_local.proofs.Unmerged.{map_some, and_then_some}

-- a test that tells no fault is false, and where its opposite tells none it is true
pub false_where : {F : Type 0} (fault : F) (a : Bool) → first_true ((a, fault) ∷ []) ≡ None → a ≡ false
false_where fault a h = grind arith

pub true_unless : {F : Type 0} (fault : F) (a : Bool) → first_true ((not a, fault) ∷ []) ≡ None → a ≡ true
true_unless fault a h = grind arith

-- labels without a fault are distinct, and 1 to 16
pub labels_so : {F : Type 0} (double many none : F) (a b c : Bool) → first_true ((a, double) ∷ (b, many) ∷ (c, none) ∷ []) ≡ None → (not a && not b && not c) ≡ true
labels_so double many none a b c h = grind arith

pub good_labels : (names : List (List ℕ)) → first_true (label_tests names) ≡ None → are_labels names ≡ true
good_labels names h = labels_so faults.DoubleLabel faults.TooManyBranches faults.NoBranches (has_double names) (nat_lt 16 (length names)) (length names == 0) h

pub same_labels : (merging : Merging) (roles : List (List ℕ)) (role : ℕ) (branches : global.Branches) (ts : Branches) → projections merging roles role branches ≡ Some ts → labels ts ≡ tree_labels branches
same_labels merging roles role global.NoMore ts e = let k : NoMore ≡ ts = cc in subst (λ (z : Branches). labels z ≡ []) k refl
same_labels merging roles role (global.More label next others) ts e =
    let k = more_parts merging roles role label next others ts e in
    subst (λ (z : Branches). labels z ≡ label ∷ tree_labels others) (sym k.4) (ap (λ (l : List (List ℕ)). label ∷ l) (same_labels merging roles role others k.1 k.3))

-- what is done with the rest is formed as the rest
message_formed : (IsPeer : ℕ → Type 0) (bound : List (List ℕ)) (a b : Bool) (from to : ℕ) (sort : Sort) (u : LocalType) → (a ≡ true → IsPeer to) → (b ≡ true → IsPeer from) → IsFormed IsPeer bound u → IsFormed IsPeer bound (cond a (Send to sort u) (cond b (Recv from sort u) u))
message_formed IsPeer bound true b from to sort u p q h = (p refl, h)
message_formed IsPeer bound false true from to sort u p q h = (q refl, h)
message_formed IsPeer bound false false from to sort u p q h = h

choice_formed : (IsPeer : ℕ → Type 0) (bound : List (List ℕ)) (merging : Merging) (a b : Bool) (from to : ℕ) (ts : Branches) (t : LocalType) → (a ≡ true → IsPeer to) → (b ≡ true → IsPeer from) → are_labels (labels ts) ≡ true → AreFormed IsPeer bound ts → cond a (Some (Select to ts)) (cond b (Some (Branch from ts)) (merged merging ts)) ≡ Some t → IsFormed IsPeer bound t
choice_formed IsPeer bound merging true b from to ts t p q l h k = let i : Select to ts ≡ t = cc in subst (IsFormed IsPeer bound) i (p refl, l, h)
choice_formed IsPeer bound merging false true from to ts t p q l h k = let i : Branch from ts ≡ t = cc in subst (IsFormed IsPeer bound) i (q refl, l, h)
choice_formed IsPeer bound merging false false from to ts t p q l h k = merged_formed IsPeer bound merging ts t k h

-- where the role is one of the two, the other is another role
other_roles : (roles : List (List ℕ)) (role : ℕ) (sender receiver : List ℕ) → AreApart roles sender receiver → ((role == place_of roles sender) ≡ true → IsOtherRole (length roles) role (place_of roles receiver)) × ((role == place_of roles receiver) ≡ true → IsOtherRole (length roles) role (place_of roles sender))
other_roles roles role sender receiver a = grind (arith, Decides-eqb)

-- a variable without a fault is that of a `rec` around it
variable_bound : (roles : List (List ℕ)) (above : List Edge) (name : List ℕ) → first_fault roles (places above (global.Var name)) ≡ None → is_bound name above ≡ true
variable_bound roles above name h = grind (arith, true_unless, both_pass)

module _ (merging : Merging) (roles : List (List ℕ)) (role : ℕ) where
  -- formed as the projection to the role has to be
  abbrev pub IsSo : List (List ℕ) → LocalType → Type 0
  IsSo bound t = IsFormed (IsOtherRole (length roles) role) bound t

  abbrev AreSo : List (List ℕ) → Branches → Type 0
  AreSo bound ts = AreFormed (IsOtherRole (length roles) role) bound ts

  mutual
    -- where these are the variables of the `rec`s around the tree
    pub projection_formed : (above : List Edge) (bound : List (List ℕ)) → ((z : List ℕ) → list_any (bytes_eq z) bound ≡ list_any (binds z) above) → (tree : GlobalType) (t : LocalType) → AllApart roles tree → first_fault roles (places above tree) ≡ None → projection merging roles role tree ≡ Some t → IsSo bound t
    projection_formed above bound f global.End t a h e = let k : End ≡ t = cc in subst (IsSo bound) k tt
    projection_formed above bound f (global.Var name) t a h e =
        let k : Var name ≡ t = cc in subst (IsSo bound) k (f name ∙ variable_bound roles above name h)
    projection_formed above bound f (global.Rec name body) t a h e =
        let b = both_pass (rec_tests name above) (tests_at roles (places (Loop name ∷ above) body)) h in
        by_parts (rec_parts merging roles role name body t e)
        (f name ∙ false_where faults.Shadowed (is_bound name above) b.0)
        (λ u. projection_formed (Loop name ∷ above) (name ∷ bound) (λ z. ap (λ (c : Bool). bytes_eq z name || c) (f z)) body u a b.1)
      where
        by_parts : RecParts merging roles role name body t → list_any (bytes_eq name) bound ≡ false → ((u : LocalType) → projection merging roles role body ≡ Some u → IsSo (name ∷ bound) u) → IsSo bound t
        by_parts (idle g k) new again = subst (IsSo bound) (sym k) tt
        by_parts (busy g u k l) new again = subst (IsSo bound) (sym l) (new, busy_guarded merging roles role name body u g k, again u k)
    projection_formed above bound f (global.Message sender receiver sort next) t a h e =
        let from = place_of roles sender in let to = place_of roles receiver in
        let b = both_pass (pair_tests roles sender receiver) (tests_at roles (places (Act ∷ above) next)) h in
        let k = map_some (with_message role from to sort) (projection merging roles role next) t e in
        let o = other_roles roles role sender receiver a.0 in
        subst (IsSo bound) k.2 (message_formed (IsOtherRole (length roles) role) bound (role == from) (role == to) from to sort k.0 o.0 o.1
        (projection_formed (Act ∷ above) bound f next k.0 a.1 b.1 k.1))
    projection_formed above bound f (global.Choice sender receiver branches) t a h e =
        let from = place_of roles sender in let to = place_of roles receiver in
        let names = tree_labels branches in
        let b = both_pass (pair_tests roles sender receiver ++ label_tests names) (tests_at roles (branch_places (Act ∷ above) branches)) h in
        let k = and_then_some (with_choice merging role from to) (projections merging roles role branches) t e in
        let good = good_labels names (both_pass (pair_tests roles sender receiver) (label_tests names) b.0).1 in
        let o = other_roles roles role sender receiver a.0 in
        choice_formed (IsOtherRole (length roles) role) bound merging (role == from) (role == to) from to k.0 t o.0 o.1
        (ap are_labels (same_labels merging roles role branches k.0 k.1) ∙ good)
        (projections_formed (Act ∷ above) bound f branches k.0 a.1 b.1 k.1) k.2

    pub projections_formed : (above : List Edge) (bound : List (List ℕ)) → ((z : List ℕ) → list_any (bytes_eq z) bound ≡ list_any (binds z) above) → (branches : global.Branches) (ts : Branches) → AllBranchesApart roles branches → first_fault roles (branch_places above branches) ≡ None → projections merging roles role branches ≡ Some ts → AreSo bound ts
    projections_formed above bound f global.NoMore ts a h e = let k : NoMore ≡ ts = cc in subst (AreSo bound) k tt
    projections_formed above bound f (global.More label next others) ts a h e =
        let split = first_of_both roles (places above next) (branch_places above others) in
        let b = both_none (first_fault roles (places above next)) (first_fault roles (branch_places above others)) (cc (split, h)) in
        let k = more_parts merging roles role label next others ts e in
        subst (AreSo bound) (sym k.4)
        (projection_formed above bound f next k.0 a.0 b.0 k.2, projections_formed above bound f others k.1 a.1 b.1 k.3)

  -- the projection of a protocol without faults
  pub faultless_formed : (tree : GlobalType) (t : LocalType) → fault_of roles tree ≡ None → projection merging roles role tree ≡ Some t → IsSo [] t
  faultless_formed tree t h e =
      let nodes = (sound_protocol roles tree h).nodes in
      projection_formed [] [] (λ z. refl) tree t (all_apart roles [] tree nodes) nodes e
