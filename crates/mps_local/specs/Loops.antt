-- The loops of a local type.
use Rattle.std.specs.Prelude.{ℕ, Bool, true, false, ◌&&◌, not, if◌then◌else◌, List, ◌∷◌, length, nat_lt, ◌==◌}
use Rattle.std.specs.List.{list_any}
use Rattle.std.specs.Str.{bytes_eq}
use Rattle.mps_global.specs.Faults.{has_double}
use Rattle.mps_local.specs.Local.{LocalType, Branches, End, Var, Rec, Send, Recv, Select, Branch, NoMore, More}
use Rattle.mps_local.specs.Actions.{labels}

abbrev mutual
  -- whether each variable of the type stands in a `rec` of it, or is one of these
  pub is_closed : List (List ℕ) → LocalType → Bool
  is_closed bound End = true
  is_closed bound (Var name) = list_any (bytes_eq name) bound
  is_closed bound (Rec name body) = is_closed (name ∷ bound) body
  is_closed bound (Send peer sort next) = is_closed bound next
  is_closed bound (Recv peer sort next) = is_closed bound next
  is_closed bound (Select peer branches) = are_closed bound branches
  is_closed bound (Branch peer branches) = are_closed bound branches

  -- the same of the branches
  pub are_closed : List (List ℕ) → Branches → Bool
  are_closed bound NoMore = true
  are_closed bound (More label next others) = is_closed bound next && are_closed bound others

-- whether the `rec`s that the type begins with come to that variable, which is none of theirs
abbrev pub ends_in : List ℕ → LocalType → Bool
ends_in x (Var y) = bytes_eq y x
ends_in x (Rec y u) = if bytes_eq y x then false else ends_in x u
ends_in x t = false

abbrev mutual
  -- whether no `rec` of the type comes to its variable without an action
  pub is_guarded : LocalType → Bool
  is_guarded End = true
  is_guarded (Var name) = true
  is_guarded (Rec name body) = not (ends_in name body) && is_guarded body
  is_guarded (Send peer sort next) = is_guarded next
  is_guarded (Recv peer sort next) = is_guarded next
  is_guarded (Select peer branches) = are_guarded branches
  is_guarded (Branch peer branches) = are_guarded branches

  -- the same of the branches
  pub are_guarded : Branches → Bool
  are_guarded NoMore = true
  are_guarded (More label next others) = is_guarded next && are_guarded others

abbrev mutual
  -- whether no `rec` of the type has one of these variables or that of a `rec` around it
  pub is_unshadowed : List (List ℕ) → LocalType → Bool
  is_unshadowed bound End = true
  is_unshadowed bound (Var name) = true
  is_unshadowed bound (Rec name body) = not (list_any (bytes_eq name) bound) && is_unshadowed (name ∷ bound) body
  is_unshadowed bound (Send peer sort next) = is_unshadowed bound next
  is_unshadowed bound (Recv peer sort next) = is_unshadowed bound next
  is_unshadowed bound (Select peer branches) = are_unshadowed bound branches
  is_unshadowed bound (Branch peer branches) = are_unshadowed bound branches

  -- the same of the branches
  pub are_unshadowed : List (List ℕ) → Branches → Bool
  are_unshadowed bound NoMore = true
  are_unshadowed bound (More label next others) = is_unshadowed bound next && are_unshadowed bound others

-- whether they are distinct, and 1 to 16
abbrev pub are_labels : List (List ℕ) → Bool
are_labels names = not (has_double names) && not (nat_lt 16 (length names)) && not (length names == 0)

abbrev mutual
  -- whether those of each choice are
  pub is_labelled : LocalType → Bool
  is_labelled End = true
  is_labelled (Var name) = true
  is_labelled (Rec name body) = is_labelled body
  is_labelled (Send peer sort next) = is_labelled next
  is_labelled (Recv peer sort next) = is_labelled next
  is_labelled (Select peer branches) = are_labels (labels branches) && are_labelled branches
  is_labelled (Branch peer branches) = are_labels (labels branches) && are_labelled branches

  -- the same of the branches
  pub are_labelled : Branches → Bool
  are_labelled NoMore = true
  are_labelled (More label next others) = is_labelled next && are_labelled others
