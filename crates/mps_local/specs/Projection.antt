-- What one role does in a protocol without faults (Honda, Yoshida, Carbone, POPL 2008; with `end` for a loop that a role
-- takes no part in, and plain or full merging).
use Rattle.std.specs.Prelude.{ℕ, suc, ◌+◌, Bool, true, false, ◌==◌, ◌&&◌, ◌||◌, not, List, [], ◌∷◌, ◌++◌, Option, Some}
use Rattle.std.specs.Prelude.{None, option_map, if◌then◌else◌}
use Rattle.std.specs.List.{list_any, position_or_len}
use Rattle.std.specs.Str.{bytes_eq}
use Rattle.mps_base.specs.declared.value.Sort.{Sort}
use Rattle.mps_global.specs.Global as global
use Rattle.mps_global.specs.Global.{GlobalType}
use Rattle.mps_local.specs.Local.{LocalType, Branches, End, Var, Rec, Send, Recv, Select, Branch, NoMore, More}
use Rattle.mps_local.specs.Merged.{◌>>=◌, merged}
use Rattle.mps_local.specs.declared.merging.Merging.{Merging}

-- the place of the name in the list of roles, or how many they are where it is none of them
abbrev pub place_of : List (List ℕ) → List ℕ → ℕ
place_of roles name = position_or_len (bytes_eq name) roles

abbrev mutual
  -- whether the role sends or receives anywhere in the tree
  pub occurs : (roles : List (List ℕ)) (role : ℕ) → GlobalType → Bool
  occurs roles role global.End = false
  occurs roles role (global.Var name) = false
  occurs roles role (global.Rec name body) = occurs roles role body
  occurs roles role (global.Message sender receiver sort next) =
      role == place_of roles sender || role == place_of roles receiver || occurs roles role next
  occurs roles role (global.Choice sender receiver branches) =
      role == place_of roles sender || role == place_of roles receiver || occurs_in roles role branches

  -- the same of the branches
  pub occurs_in : (roles : List (List ℕ)) (role : ℕ) → global.Branches → Bool
  occurs_in roles role global.NoMore = false
  occurs_in roles role (global.More label next others) = occurs roles role next || occurs_in roles role others

abbrev mutual
  -- whether each variable of the tree stands in a `rec` of it, or is one of these
  pub is_closed : List (List ℕ) → GlobalType → Bool
  is_closed bound global.End = true
  is_closed bound (global.Var name) = list_any (bytes_eq name) bound
  is_closed bound (global.Rec name body) = is_closed (name ∷ bound) body
  is_closed bound (global.Message sender receiver sort next) = is_closed bound next
  is_closed bound (global.Choice sender receiver branches) = are_closed bound branches

  -- the same of the branches
  pub are_closed : List (List ℕ) → global.Branches → Bool
  are_closed bound global.NoMore = true
  are_closed bound (global.More label next others) = is_closed bound next && are_closed bound others

-- whether a loop is none for the role: the role takes no part in it, and it has no free variable
abbrev pub is_idle : (roles : List (List ℕ)) (role : ℕ) (name : List ℕ) → GlobalType → Bool
is_idle roles role name body = not (occurs roles role body) && is_closed [] (global.Rec name body)

-- what a role does in a message and then: its sender has an output, its receiver an input, each other role nothing
abbrev pub with_message : (role sender receiver : ℕ) (sort : Sort) (rest : LocalType) → LocalType
with_message role sender receiver sort rest =
    if role == sender then Send receiver sort rest
    else (if role == receiver then Recv sender sort rest else rest)

-- what a role does in a choice: its sender chooses, its receiver picks, each other role does what stands for every branch
abbrev pub with_choice : (merging : Merging) (role sender receiver : ℕ) → Branches → Option LocalType
with_choice merging role sender receiver branches =
    if role == sender then Some (Select receiver branches)
    else (if role == receiver then Some (Branch sender branches) else merged merging branches)

abbrev mutual
  -- what a role does in a global type; nothing where branches that it has to merge can't be merged
  pub projection : (merging : Merging) (roles : List (List ℕ)) (role : ℕ) → GlobalType → Option LocalType
  projection merging roles role global.End = Some End
  projection merging roles role (global.Var name) = Some (Var name)
  projection merging roles role (global.Rec name body) =
      if is_idle roles role name body then Some End else option_map (Rec name) (projection merging roles role body)
  projection merging roles role (global.Message sender receiver sort next) =
      option_map (with_message role (place_of roles sender) (place_of roles receiver) sort) (projection merging roles role next)
  projection merging roles role (global.Choice sender receiver branches) =
      projections merging roles role branches >>= with_choice merging role (place_of roles sender) (place_of roles receiver)

  -- the same of each branch
  pub projections : (merging : Merging) (roles : List (List ℕ)) (role : ℕ) → global.Branches → Option Branches
  projections merging roles role global.NoMore = Some NoMore
  projections merging roles role (global.More label next others) = do
    t ← projection merging roles role next
    ts ← projections merging roles role others
    Some (More label t ts)

abbrev mutual
  -- how many choices the tree has
  pub choice_count : GlobalType → ℕ
  choice_count global.End = 0
  choice_count (global.Var name) = 0
  choice_count (global.Rec name body) = choice_count body
  choice_count (global.Message sender receiver sort next) = choice_count next
  choice_count (global.Choice sender receiver branches) = suc (branch_choices branches)

  -- the same of the branches
  pub branch_choices : global.Branches → ℕ
  branch_choices global.NoMore = 0
  branch_choices (global.More label next others) = choice_count next + branch_choices others

-- a choice, and its number in preorder
pub record Numbered : Type 0 where
  pub number : ℕ
  pub choice : GlobalType

abbrev mutual
  -- the choices that the role's projection examines, in that order: those of the branches from left to right, and then
  -- the one that holds them. The tree's first choice in preorder has that number
  pub examined : (roles : List (List ℕ)) (role number : ℕ) → GlobalType → List Numbered
  examined roles role number global.End = []
  examined roles role number (global.Var name) = []
  examined roles role number (global.Rec name body) =
      if is_idle roles role name body then [] else examined roles role number body
  examined roles role number (global.Message sender receiver sort next) = examined roles role number next
  examined roles role number (global.Choice sender receiver branches) =
      examined_in roles role (suc number) branches
      ++ record { number = number; choice = global.Choice sender receiver branches } ∷ []

  -- the same of the branches
  pub examined_in : (roles : List (List ℕ)) (role number : ℕ) → global.Branches → List Numbered
  examined_in roles role number global.NoMore = []
  examined_in roles role number (global.More label next others) =
      examined roles role number next ++ examined_in roles role (number + choice_count next) others

-- whether there is no type
abbrev pub is_undefined : Option LocalType → Bool
is_undefined None = true
is_undefined (Some t) = false

-- the number of the first choice of the list in which the role has no projection
abbrev pub first_unmerged : (merging : Merging) (roles : List (List ℕ)) (role : ℕ) → List Numbered → Option ℕ
first_unmerged merging roles role [] = None
first_unmerged merging roles role (c ∷ cs) =
    if is_undefined (projection merging roles role c.choice) then Some c.number else first_unmerged merging roles role cs
