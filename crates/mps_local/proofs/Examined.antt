-- The choices that a projection examines, and the first of them that has none.
use Rattle.std.proofs.Common.{◌≡◌, ℕ, ◌+◌, Bool, false, cond, List, [], ◌∷◌, ◌++◌, Option, Some, None, refl, arith}
use Rattle.mps_base.specs.declared.value.Sort.{Sort}
use Rattle.mps_global.specs.Global as global
use Rattle.mps_global.specs.Global.{GlobalType}
use Rattle.mps_local.specs.Local.{LocalType, Branches, More}
use Rattle.mps_local.specs.Projection.{place_of, with_message, with_choice, projection, Numbered, examined, is_undefined, first_unmerged}
use Rattle.mps_local.specs.Outcome.{CantMerge, IsUnmerged}
use Rattle.mps_local.specs.Private.Outcome.{IsDone, AreDone, AreUnmerged}
use Rattle.mps_local.specs.declared.projection.ProjectFault.{ProjectFault}
use Rattle.mps_local.specs.declared.merging.Merging.{Merging}

none_here : (b : Bool) (number : ℕ) (rest : Option ℕ) → cond b (Some number) rest ≡ None → (b ≡ false) × (rest ≡ None)
none_here b number rest h = grind arith

pub none_first : (merging : Merging) (roles : List (List ℕ)) (role : ℕ) (a b : List Numbered) → first_unmerged merging roles role a ≡ None → first_unmerged merging roles role (a ++ b) ≡ first_unmerged merging roles role b
none_first merging roles role [] b h = refl
none_first merging roles role (c ∷ a) b h =
    let n = none_here (is_undefined (projection merging roles role c.choice)) c.number (first_unmerged merging roles role a) h in
    rw n.0 (none_first merging roles role a b n.1)

some_step : (b : Bool) (number : ℕ) (rest more : Option ℕ) (k : ℕ) → (rest ≡ Some k → more ≡ Some k) → cond b (Some number) rest ≡ Some k → cond b (Some number) more ≡ Some k
some_step b number rest more k ih h = grind arith

some_first : (merging : Merging) (roles : List (List ℕ)) (role : ℕ) (a b : List Numbered) (k : ℕ) → first_unmerged merging roles role a ≡ Some k → first_unmerged merging roles role (a ++ b) ≡ Some k
some_first merging roles role [] b k h = cc
some_first merging roles role (c ∷ a) b k h =
    some_step (is_undefined (projection merging roles role c.choice)) c.number (first_unmerged merging roles role a) (first_unmerged merging roles role (a ++ b)) k (some_first merging roles role a b k) h

-- a message goes on as the rest does
pub message_done : (merging : Merging) (roles : List (List ℕ)) (role number : ℕ) (sender receiver : List ℕ) (sort : Sort) (next : GlobalType) (t : LocalType) (after : ℕ) → IsDone merging roles role number next t after → IsDone merging roles role number (global.Message sender receiver sort next) (with_message role (place_of roles sender) (place_of roles receiver) sort t) after
message_done merging roles role number sender receiver sort next t after d = grind arith

-- branches go on as each of them does
pub branches_done : (merging : Merging) (roles : List (List ℕ)) (role number : ℕ) (label : List ℕ) (next : GlobalType) (others : global.Branches) (t : LocalType) (ts : Branches) (between after : ℕ) → IsDone merging roles role number next t between → AreDone merging roles role between others ts after → AreDone merging roles role number (global.More label next others) (More label t ts) after
branches_done merging roles role number label next others t ts between after d e = grind (arith, none_first)

-- the first branch has none
pub first_fails : (merging : Merging) (roles : List (List ℕ)) (role number : ℕ) (label : List ℕ) (next : GlobalType) (others : global.Branches) (fault : ProjectFault) → IsUnmerged merging roles role number next fault → AreUnmerged merging roles role number (global.More label next others) fault
first_fails merging roles role number label next others fault f = grind (arith, some_first)

-- the first branch has one, but one of the others has none
pub others_fail : (merging : Merging) (roles : List (List ℕ)) (role number : ℕ) (label : List ℕ) (next : GlobalType) (others : global.Branches) (t : LocalType) (between : ℕ) (fault : ProjectFault) → IsDone merging roles role number next t between → AreUnmerged merging roles role between others fault → AreUnmerged merging roles role number (global.More label next others) fault
others_fail merging roles role number label next others t between fault d f = grind (arith, none_first)

-- a branch of the choice has none
pub choice_fails_in_a_branch : (merging : Merging) (roles : List (List ℕ)) (role number : ℕ) (sender receiver : List ℕ) (branches : global.Branches) (fault : ProjectFault) → AreUnmerged merging roles role (number + 1) branches fault → IsUnmerged merging roles role number (global.Choice sender receiver branches) fault
choice_fails_in_a_branch merging roles role number sender receiver branches fault f = grind (arith, some_first)

-- what is examined of a choice whose branches are done
record Branched (merging : Merging) (roles : List (List ℕ)) (role number : ℕ) (sender receiver : List ℕ) (branches : global.Branches) (ts : Branches) : Type 0 where
  is : projection merging roles role (global.Choice sender receiver branches) ≡ with_choice merging role (place_of roles sender) (place_of roles receiver) ts
  examines : first_unmerged merging roles role (examined roles role number (global.Choice sender receiver branches)) ≡ cond (is_undefined (with_choice merging role (place_of roles sender) (place_of roles receiver) ts)) (Some number) None

branched : (merging : Merging) (roles : List (List ℕ)) (role number : ℕ) (sender receiver : List ℕ) (branches : global.Branches) (ts : Branches) (after : ℕ) → AreDone merging roles role (number + 1) branches ts after → Branched merging roles role number sender receiver branches ts
branched merging roles role number sender receiver branches ts after d = grind (arith, none_first)

-- the choice has one
pub choice_done : (merging : Merging) (roles : List (List ℕ)) (role number : ℕ) (sender receiver : List ℕ) (branches : global.Branches) (ts : Branches) (after : ℕ) (t : LocalType) → AreDone merging roles role (number + 1) branches ts after → with_choice merging role (place_of roles sender) (place_of roles receiver) ts ≡ Some t → IsDone merging roles role number (global.Choice sender receiver branches) t after
choice_done merging roles role number sender receiver branches ts after t d h = grind (arith, branched)

-- its branches differ
pub choice_fails : (merging : Merging) (roles : List (List ℕ)) (role number : ℕ) (sender receiver : List ℕ) (branches : global.Branches) (ts : Branches) (after : ℕ) → AreDone merging roles role (number + 1) branches ts after → with_choice merging role (place_of roles sender) (place_of roles receiver) ts ≡ None → CantMerge merging roles role number (global.Choice sender receiver branches) role number
choice_fails merging roles role number sender receiver branches ts after d h = grind (arith, branched)
