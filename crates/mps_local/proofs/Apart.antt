-- The two roles of each message and choice of a protocol without faults.
use Rattle.std.proofs.Common.{arith, ◌≡◌, ◌≢◌, ℕ, ◌<◌, Bool, List, ◌∷◌, length, Option, None}
use Rattle.std.specs.Prelude.{⊤, ◌++◌}
use Rattle.std.specs.Option.{option_or}
use Rattle.mps_global.specs.Global as global
use Rattle.mps_global.specs.Global.{GlobalType}
use Rattle.mps_global.specs.Path.{Edge, Loop, Act}
use Rattle.mps_global.specs.Faults.{labels, places, branch_places, first_true, pair_tests, label_tests, rec_tests, tests_at, first_fault}
use Rattle.mps_global.specs.declared.faults.GlobalFault.{GlobalFault}
use Rattle.mps_global.proofs.Walks.{first_of_tests, first_of_both}
use Rattle.mps_local.specs.Projection.{place_of}
use Rattle.mps_local.proofs.Places.{place_below, places_differ}

-- two roles of the session
pub record AreApart (roles : List (List ℕ)) (sender receiver : List ℕ) : Type 0 where
  pub from : place_of roles sender < length roles
  pub to : place_of roles receiver < length roles
  pub differ : place_of roles sender ≢ place_of roles receiver

abbrev mutual
  -- those of each message and choice are
  pub AllApart : List (List ℕ) → GlobalType → Type 0
  AllApart roles global.End = ⊤
  AllApart roles (global.Var name) = ⊤
  AllApart roles (global.Rec name body) = AllApart roles body
  AllApart roles (global.Message sender receiver sort next) = AreApart roles sender receiver × AllApart roles next
  AllApart roles (global.Choice sender receiver branches) = AreApart roles sender receiver × AllBranchesApart roles branches

  pub AllBranchesApart : List (List ℕ) → global.Branches → Type 0
  AllBranchesApart roles global.NoMore = ⊤
  AllBranchesApart roles (global.More label next others) = AllApart roles next × AllBranchesApart roles others

pub both_none : {F : Type 0} (a b : Option F) → option_or a b ≡ None → (a ≡ None) × (b ≡ None)
both_none a b h = grind arith

-- where the tests of the two roles and the others tell no fault
apart : (roles : List (List ℕ)) (sender receiver : List ℕ) (others : List (Bool × GlobalFault)) → first_true (pair_tests roles sender receiver ++ others) ≡ None → AreApart roles sender receiver × (first_true others ≡ None)
apart roles sender receiver others h = grind (arith, place_below, places_differ)

-- where no test of either list tells a fault
pub both_pass : {F : Type 0} (a b : List (Bool × F)) → first_true (a ++ b) ≡ None → (first_true a ≡ None) × (first_true b ≡ None)
both_pass a b h = let split = first_of_tests a b in both_none (first_true a) (first_true b) (cc (split, h))

mutual
  -- where no node has a fault
  pub all_apart : (roles : List (List ℕ)) (above : List Edge) (tree : GlobalType) → first_fault roles (places above tree) ≡ None → AllApart roles tree
  all_apart roles above global.End h = tt
  all_apart roles above (global.Var name) h = tt
  all_apart roles above (global.Rec name body) h =
      let below = Loop name ∷ above in
      all_apart roles below body (both_pass (rec_tests name above) (tests_at roles (places below body)) h).1
  all_apart roles above (global.Message sender receiver sort next) h =
      let below = Act ∷ above in
      let a = apart roles sender receiver (tests_at roles (places below next)) h in
      (a.0, all_apart roles below next a.1)
  all_apart roles above (global.Choice sender receiver branches) h =
      let below = Act ∷ above in
      let later = tests_at roles (branch_places below branches) in
      let a = apart roles sender receiver (label_tests (labels branches) ++ later) h in
      (a.0, all_branches_apart roles below branches (both_pass (label_tests (labels branches)) later a.1).1)

  all_branches_apart : (roles : List (List ℕ)) (above : List Edge) (branches : global.Branches) → first_fault roles (branch_places above branches) ≡ None → AllBranchesApart roles branches
  all_branches_apart roles above global.NoMore h = tt
  all_branches_apart roles above (global.More label next others) h =
      let split = first_of_both roles (places above next) (branch_places above others) in
      let b = both_none (first_fault roles (places above next)) (first_fault roles (branch_places above others)) (cc (split, h)) in
      (all_apart roles above next b.0, all_branches_apart roles above others b.1)
