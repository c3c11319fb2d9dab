-- What is left of a protocol without faults, wherever the way through it comes.
use Rattle.std.proofs.Common.{◌≡◌, ◌≢◌, ℕ, Bool, true, false, cond, List, [], ◌∷◌, ◌++◌, length, None, Some, ap, subst}
use Rattle.std.specs.Prelude.{⊤, ◌||◌, ◌==◌}
use Rattle.std.specs.List.{list_any}
use Rattle.std.specs.Str.{bytes_eq}
use Rattle.mps_base.specs.declared.value.Sort.{Sort}
use Rattle.mps_global.specs.Global as global
use Rattle.mps_global.specs.Global.{GlobalType}
use Rattle.mps_global.specs.Path.{Edge, Loop, Act, binds}
use Rattle.mps_global.specs.Faults.{labels, places, branch_places, pair_tests, label_tests, rec_tests, tests_at, first_fault}
use Rattle.mps_global.proofs.Walks.{first_of_both}
use Rattle.mps_local.specs.Local.{Branches}
use Rattle.mps_local.specs.Projection.{projections}
use Rattle.mps_local.specs.Shape.{IsOtherRole}
use Rattle.mps_local.specs.declared.merging.Merging.{Merging}
use Rattle.mps_local.proofs.Apart.{AllApart, AllBranchesApart, both_none, both_pass}
use Rattle.mps_local.proofs.Formed.{AreFormed, label_parts}
use Rattle.mps_local.proofs.Looping.{good_labels, projections_formed}
use Rattle.mps_fidelity.proofs.Parts.{tree_at}
use Rattle.mps_fidelity.proofs.Path.{Around}

module _ (roles : List (List ℕ)) where
  -- a part of a protocol without faults, below some path
  pub record IsSound (tree : GlobalType) : Type 0 where
    pub above : List Edge
    pub bound : List (List ℕ)
    pub alike : (z : List ℕ) → list_any (bytes_eq z) bound ≡ list_any (binds z) above
    pub faultless : first_fault roles (places above tree) ≡ None
    pub apart : AllApart roles tree

  pub record AreSound (branches : global.Branches) : Type 0 where
    pub above : List Edge
    pub bound : List (List ℕ)
    pub alike : (z : List ℕ) → list_any (bytes_eq z) bound ≡ list_any (binds z) above
    pub faultless : first_fault roles (branch_places above branches) ≡ None
    pub apart : AllBranchesApart roles branches

  pub sound_body : (name : List ℕ) (body : GlobalType) → IsSound (global.Rec name body) → IsSound body
  sound_body name body s =
      let b = both_pass (rec_tests name s.above) (tests_at roles (places (Loop name ∷ s.above) body)) s.faultless in record {
        above = Loop name ∷ s.above;
        bound = name ∷ s.bound;
        alike = λ z. ap (λ (c : Bool). bytes_eq z name || c) (s.alike z);
        faultless = b.1;
        apart = s.apart;
      }

  pub sound_next : (sender receiver : List ℕ) (sort : Sort) (next : GlobalType) → IsSound (global.Message sender receiver sort next) → IsSound next
  sound_next sender receiver sort next s =
      let b = both_pass (pair_tests roles sender receiver) (tests_at roles (places (Act ∷ s.above) next)) s.faultless in
      record { above = Act ∷ s.above; bound = s.bound; alike = s.alike; faultless = b.1; apart = s.apart.1 }

  pub sound_branches : (sender receiver : List ℕ) (branches : global.Branches) → IsSound (global.Choice sender receiver branches) → AreSound branches
  sound_branches sender receiver branches s =
      let b = both_pass (pair_tests roles sender receiver ++ label_tests (labels branches)) (tests_at roles (branch_places (Act ∷ s.above) branches)) s.faultless in
      record { above = Act ∷ s.above; bound = s.bound; alike = s.alike; faultless = b.1; apart = s.apart.1 }

  -- each choice has a branch
  pub some_branch : (sender receiver : List ℕ) (branches : global.Branches) → IsSound (global.Choice sender receiver branches) → branches ≢ global.NoMore
  some_branch sender receiver branches s e =
      let b = both_pass (pair_tests roles sender receiver ++ label_tests (labels branches)) (tests_at roles (branch_places (Act ∷ s.above) branches)) s.faultless in
      let good = good_labels (labels branches) (both_pass (pair_tests roles sender receiver) (label_tests (labels branches)) b.0).1 in
      let many = (label_parts (labels branches) good).2 in
      let none = subst (λ (z : global.Branches). (length (labels z) == 0) ≡ false) e many in
      absurd cc

  pub sound_branch : (branches : global.Branches) → AreSound branches → (l : List ℕ) (next : GlobalType) → tree_at l branches ≡ Some next → IsSound next
  sound_branch global.NoMore s l next e = absurd cc
  sound_branch (global.More m first others) s l next e =
      let split = first_of_both roles (places s.above first) (branch_places s.above others) in
      let whole = s.faultless in
      let b = both_none (first_fault roles (places s.above first)) (first_fault roles (branch_places s.above others)) (cc (split, whole)) in
      by_test (bytes_eq m l) (record { above = s.above; bound = s.bound; alike = s.alike; faultless = b.0; apart = s.apart.0 })
      (sound_branch others (record { above = s.above; bound = s.bound; alike = s.alike; faultless = b.1; apart = s.apart.1 }) l next) e
    where
      by_test : (b : Bool) → IsSound first → (tree_at l others ≡ Some next → IsSound next) → cond b (Some first) (tree_at l others) ≡ Some next → IsSound next
      by_test true f again g = let same : first ≡ next = cc in subst IsSound same f
      by_test false f again g = again g

  -- what a role does in the branches is formed
  pub branches_formed : (merging : Merging) (role : ℕ) (branches : global.Branches) (s : AreSound branches) (ts : Branches) → projections merging roles role branches ≡ Some ts → AreFormed (IsOtherRole (length roles) role) s.bound ts
  branches_formed merging role branches s ts e = projections_formed merging roles role s.above s.bound s.alike branches ts s.apart s.faultless e

  -- so is each loop around
  abbrev pub AllSound : List Around → Type 0
  AllSound [] = ⊤
  AllSound (l ∷ ls) = IsSound l.body × AllSound ls
