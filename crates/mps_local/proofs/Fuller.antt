-- Where plain merging gives a projection, full merging gives the same one.
use Rattle.std.proofs.Common.{◌≡◌, ℕ, Bool, true, false, cond, List, [], ◌∷◌, None, Some, refl, sym, ap, subst}
use Rattle.std.specs.Prelude.{◌||◌, ◌++◌, ◌==◌, nat_lt, length}
use Rattle.std.specs.List.{list_any}
use Rattle.std.specs.Option.{option_map}
use Rattle.std.specs.Str.{bytes_eq}
use Rattle.std.proofs.lemmas.Bool.{eq-eqb}
use Rattle.mps_global.specs.Global as global
use Rattle.mps_global.specs.Global.{GlobalType}
use Rattle.mps_global.specs.Path.{Edge, Loop, Act, binds}
use Rattle.mps_global.specs.Faults.{labels as tree_labels, places, branch_places, pair_tests, label_tests, rec_tests, tests_at, first_fault, fault_of}
use Rattle.mps_global.proofs.Sound.{sound_protocol}
use Rattle.mps_global.proofs.Walks.{first_of_both}
use Rattle.mps_local.specs.Actions.{labels, nexts}
use Rattle.mps_local.specs.Local.{LocalType, Branches, End, Var, Rec, Send, Recv, Select, Branch, NoMore, More}
use Rattle.mps_local.specs.Merged.{merge, merge_each, merge_picks, few_picks, merge_all, merged}
use Rattle.mps_local.specs.Projection.{place_of, is_idle, with_message, with_choice, projection, projections}
use Rattle.mps_local.specs.declared.merging.Merging.TheVariants.{Plain, Full}
use Rattle.mps_local.proofs.Apart.{AllApart, AllBranchesApart, all_apart, both_none, both_pass}
use Rattle.mps_local.proofs.Equal.{name_same, sort_same}
use Rattle.mps_local.proofs.Formed.{IsFormed, AreFormed, label_parts}
use Rattle.mps_local.proofs.Looping.{projections_formed}
use Rattle.mps_local.proofs.Merged.{AllAre, merged_are}
use Rattle.mps_local.proofs.Silence.{more_parts}
use Rattle.mps_local.proofs.Unmerged.{map_some, and_then_some}

few_self : (b : Branches) → merge_picks b b ≡ Some b → nat_lt 16 (length (labels b)) ≡ false → few_picks b b ≡ Some b
few_self b e h = rw (e, h) refl

mutual
  -- a type that is formed merges with itself to itself
  merge_self : (IsPeer : ℕ → Type 0) (bound : List (List ℕ)) (t : LocalType) → IsFormed IsPeer bound t → merge t t ≡ Some t
  merge_self IsPeer bound End h = refl
  merge_self IsPeer bound (Var x) h = rw (name_same x) refl
  merge_self IsPeer bound (Rec x t) h = rw (name_same x, merge_self IsPeer (x ∷ bound) t h.2) refl
  merge_self IsPeer bound (Send p s t) h = rw (eq-eqb p p refl, sort_same s, merge_self IsPeer bound t h.1) refl
  merge_self IsPeer bound (Recv p s t) h = rw (eq-eqb p p refl, sort_same s, merge_self IsPeer bound t h.1) refl
  merge_self IsPeer bound (Select p b) h = rw (eq-eqb p p refl, each_self IsPeer bound b h.2) refl
  merge_self IsPeer bound (Branch p b) h =
      rw (eq-eqb p p refl, few_self b (picks_self IsPeer bound b h.2) (label_parts (labels b) h.1).1) refl

  each_self : (IsPeer : ℕ → Type 0) (bound : List (List ℕ)) (b : Branches) → AreFormed IsPeer bound b → merge_each b b ≡ Some b
  each_self IsPeer bound NoMore h = refl
  each_self IsPeer bound (More l t b) h =
      rw (name_same l, merge_self IsPeer bound t h.0, each_self IsPeer bound b h.1) refl

  picks_self : (IsPeer : ℕ → Type 0) (bound : List (List ℕ)) (b : Branches) → AreFormed IsPeer bound b → merge_picks b b ≡ Some b
  picks_self IsPeer bound NoMore h = refl
  picks_self IsPeer bound (More l t b) h =
      rw (name_same l, merge_self IsPeer bound t h.0, picks_self IsPeer bound b h.1) refl

-- so branches that all go on with it merge to it
all_full : (t : LocalType) (b : Branches) → merge t t ≡ Some t → AllAre t (nexts b) → merge_all Full t b ≡ Some t
all_full t NoMore e h = refl
all_full t (More l u b) e h =
    let i : merge t u ≡ Some t = subst (λ (z : LocalType). merge t z ≡ Some t) (sym h.0) e in
    rw i (all_full t b e h.1)

fuller_merged : (IsPeer : ℕ → Type 0) (bound : List (List ℕ)) (b : Branches) (t : LocalType) → AreFormed IsPeer bound b → merged Plain b ≡ Some t → merged Full b ≡ Some t
fuller_merged IsPeer bound NoMore t h e = absurd cc
fuller_merged IsPeer bound (More l u b) t h e =
    let k = (merged_are (More l u b) t e).1 in
    let i : IsFormed IsPeer bound t = subst (IsFormed IsPeer bound) k.0 h.0 in
    subst (λ (z : LocalType). merge_all Full z b ≡ Some t) (sym k.0) (all_full t b (merge_self IsPeer bound t i) k.1)

fuller_choice : (IsPeer : ℕ → Type 0) (bound : List (List ℕ)) (a b : Bool) (from to : ℕ) (ts : Branches) (t : LocalType) → AreFormed IsPeer bound ts → cond a (Some (Select to ts)) (cond b (Some (Branch from ts)) (merged Plain ts)) ≡ Some t → cond a (Some (Select to ts)) (cond b (Some (Branch from ts)) (merged Full ts)) ≡ Some t
fuller_choice IsPeer bound true b from to ts t h e = e
fuller_choice IsPeer bound false true from to ts t h e = e
fuller_choice IsPeer bound false false from to ts t h e = fuller_merged IsPeer bound ts t h e

module _ (roles : List (List ℕ)) (role : ℕ) where
  mutual
    fuller_tree : (above : List Edge) (bound : List (List ℕ)) → ((z : List ℕ) → list_any (bytes_eq z) bound ≡ list_any (binds z) above) → (tree : GlobalType) (t : LocalType) → AllApart roles tree → first_fault roles (places above tree) ≡ None → projection Plain roles role tree ≡ Some t → projection Full roles role tree ≡ Some t
    fuller_tree above bound f global.End t a h e = e
    fuller_tree above bound f (global.Var name) t a h e = e
    fuller_tree above bound f (global.Rec name body) t a h e =
        let pass = both_pass (rec_tests name above) (tests_at roles (places (Loop name ∷ above) body)) h in
        by_test (is_idle roles role name body) e
        (λ u. fuller_tree (Loop name ∷ above) (name ∷ bound) (λ z. ap (λ (c : Bool). bytes_eq z name || c) (f z)) body u a pass.1)
      where
        by_test : (b : Bool) → cond b (Some End) (option_map (Rec name) (projection Plain roles role body)) ≡ Some t → ((u : LocalType) → projection Plain roles role body ≡ Some u → projection Full roles role body ≡ Some u) → cond b (Some End) (option_map (Rec name) (projection Full roles role body)) ≡ Some t
        by_test true g again = g
        by_test false g again =
            let k = map_some (Rec name) (projection Plain roles role body) t g in
            rw (again k.0 k.1) (ap Some k.2)
    fuller_tree above bound f (global.Message sender receiver sort next) t a h e =
        let b = both_pass (pair_tests roles sender receiver) (tests_at roles (places (Act ∷ above) next)) h in
        let k = map_some (with_message role (place_of roles sender) (place_of roles receiver) sort) (projection Plain roles role next) t e in
        rw (fuller_tree (Act ∷ above) bound f next k.0 a.1 b.1 k.1) (ap Some k.2)
    fuller_tree above bound f (global.Choice sender receiver branches) t a h e =
        let from = place_of roles sender in let to = place_of roles receiver in
        let b = both_pass (pair_tests roles sender receiver ++ label_tests (tree_labels branches)) (tests_at roles (branch_places (Act ∷ above) branches)) h in
        let k = and_then_some (with_choice Plain role from to) (projections Plain roles role branches) t e in
        rw (fuller_branches (Act ∷ above) bound f branches k.0 a.1 b.1 k.1)
        (fuller_choice _ bound (role == from) (role == to) from to k.0 t (projections_formed Plain roles role (Act ∷ above) bound f branches k.0 a.1 b.1 k.1) k.2)

    fuller_branches : (above : List Edge) (bound : List (List ℕ)) → ((z : List ℕ) → list_any (bytes_eq z) bound ≡ list_any (binds z) above) → (branches : global.Branches) (ts : Branches) → AllBranchesApart roles branches → first_fault roles (branch_places above branches) ≡ None → projections Plain roles role branches ≡ Some ts → projections Full roles role branches ≡ Some ts
    fuller_branches above bound f global.NoMore ts a h e = e
    fuller_branches above bound f (global.More label next others) ts a h e =
        let split = first_of_both roles (places above next) (branch_places above others) in
        let b = both_none (first_fault roles (places above next)) (first_fault roles (branch_places above others)) (cc (split, h)) in
        let k = more_parts Plain roles role label next others ts e in
        rw (fuller_tree above bound f next k.0 a.0 b.0 k.2, fuller_branches above bound f others k.1 a.1 b.1 k.3) (ap Some (sym k.4))

-- so it is for a protocol without faults
pub fuller : (roles : List (List ℕ)) (role : ℕ) (tree : GlobalType) (t : LocalType) → fault_of roles tree ≡ None → projection Plain roles role tree ≡ Some t → projection Full roles role tree ≡ Some t
fuller roles role tree t h e =
    let nodes = (sound_protocol roles tree h).nodes in
    fuller_tree roles role [] [] (λ z. refl) tree t (all_apart roles [] tree nodes) nodes e
