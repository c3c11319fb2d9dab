-- Where there is no projection, a choice is the first that has none.
use Rattle.std.proofs.Common.{arith, ◌≡◌, ℕ, suc, ◌+◌, Bool, true, false, cond, List, [], ◌∷◌, ◌++◌, Option, Some, None, refl, ap, ◌∙◌}
use Rattle.std.specs.Prelude.{IsSome, option_and_then}
use Rattle.std.specs.Option.{option_map}
use Rattle.mps_global.specs.Global as global
use Rattle.mps_global.specs.Global.{GlobalType}
use Rattle.mps_local.specs.Local.{LocalType, Branches, End, Rec, More}
use Rattle.mps_local.specs.Projection.{place_of, is_idle, with_message, with_choice, projection, projections, choice_count, Numbered, examined, examined_in, is_undefined, first_unmerged}
use Rattle.mps_local.specs.declared.merging.Merging.{Merging}
use Rattle.mps_local.proofs.Examined.{none_first}

pub map_some : {A B : Type 0} (f : A → B) (o : Option A) (y : B) → option_map f o ≡ Some y → (x : A) × (o ≡ Some x) × (f x ≡ y)
map_some f o y e = grind arith

map_none : {A B : Type 0} (f : A → B) (o : Option A) → option_map f o ≡ None → o ≡ None
map_none f o e = grind arith

pub and_then_some : {A B : Type 0} (f : A → Option B) (o : Option A) (y : B) → option_and_then f o ≡ Some y → (x : A) × (o ≡ Some x) × (f x ≡ Some y)
and_then_some f o y e = grind arith

-- the last of the list has none
last_named : (merging : Merging) (roles : List (List ℕ)) (role : ℕ) (cs : List Numbered) (c : Numbered) → projection merging roles role c.choice ≡ None → IsSome (first_unmerged merging roles role (cs ++ c ∷ []))
last_named merging roles role [] c e = rw e refl
last_named merging roles role (d ∷ cs) c e = by_test (is_undefined (projection merging roles role d.choice)) (last_named merging roles role cs c e)
  where
    by_test : (b : Bool) → IsSome (first_unmerged merging roles role (cs ++ c ∷ [])) → IsSome (cond b (Some d.number) (first_unmerged merging roles role (cs ++ c ∷ [])))
    by_test true h = refl
    by_test false h = h

-- where there is no projection, a choice is named
pub named : (merging : Merging) (roles : List (List ℕ)) (role number : ℕ) (tree : GlobalType) → projection merging roles role tree ≡ None → IsSome (first_unmerged merging roles role (examined roles role number tree))
named merging roles role number (global.Rec name body) e = grind (arith, named merging roles role number body)
named merging roles role number (global.Message sender receiver sort next) e =
    named merging roles role number next (map_none (with_message role (place_of roles sender) (place_of roles receiver) sort) (projection merging roles role next) e)
named merging roles role number others e = grind (arith, last_named)

mutual
  -- where there is one, none is
  pub none_named : (merging : Merging) (roles : List (List ℕ)) (role number : ℕ) (tree : GlobalType) (t : LocalType) → projection merging roles role tree ≡ Some t → first_unmerged merging roles role (examined roles role number tree) ≡ None
  none_named merging roles role number global.End t e = refl
  none_named merging roles role number (global.Var name) t e = refl
  none_named merging roles role number (global.Rec name body) t e =
      by_test (is_idle roles role name body) e (none_named merging roles role number body)
    where
      by_test : (b : Bool) → cond b (Some End) (option_map (Rec name) (projection merging roles role body)) ≡ Some t → ((u : LocalType) → projection merging roles role body ≡ Some u → first_unmerged merging roles role (examined roles role number body) ≡ None) → first_unmerged merging roles role (cond b [] (examined roles role number body)) ≡ None
      by_test true h again = refl
      by_test false h again = let k = map_some (Rec name) (projection merging roles role body) t h in again k.0 k.1
  none_named merging roles role number (global.Message sender receiver sort next) t e =
      let k = map_some (with_message role (place_of roles sender) (place_of roles receiver) sort) (projection merging roles role next) t e in
      none_named merging roles role number next k.0 k.1
  none_named merging roles role number (global.Choice sender receiver branches) t e =
      let k = and_then_some (with_choice merging role (place_of roles sender) (place_of roles receiver)) (projections merging roles role branches) t e in
      none_first merging roles role (examined_in roles role (suc number) branches) (record { number = number; choice = global.Choice sender receiver branches } ∷ []) (none_named_in merging roles role (suc number) branches k.0 k.1)
      ∙ ap (λ (o : Option LocalType). cond (is_undefined o) (Some number) None) e

  none_named_in : (merging : Merging) (roles : List (List ℕ)) (role number : ℕ) (branches : global.Branches) (ts : Branches) → projections merging roles role branches ≡ Some ts → first_unmerged merging roles role (examined_in roles role number branches) ≡ None
  none_named_in merging roles role number global.NoMore ts e = refl
  none_named_in merging roles role number (global.More label next others) ts e =
      let k = and_then_some (λ t. option_and_then (λ ts. Some (More label t ts)) (projections merging roles role others)) (projection merging roles role next) ts e in
      let l = and_then_some (λ ts. Some (More label k.0 ts)) (projections merging roles role others) ts k.2 in
      none_first merging roles role (examined roles role number next) (examined_in roles role (number + choice_count next) others) (none_named merging roles role number next k.0 k.1)
      ∙ none_named_in merging roles role (number + choice_count next) others l.0 l.1
