-- Which type stands for the branches of a choice, for a role that takes no part in it. Merging is plain (Honda, Yoshida,
-- Carbone, POPL 2008) or full (as in Deniélou, Yoshida: Multiparty session types meet communicating automata, ESOP 2012).
use Rattle.std.specs.Prelude.{◌≡◌, ℕ, Bool, true, false, ◌==◌, ◌&&◌, List, Option, Some, None, ⊤}
use Rattle.std.specs.Prelude.{option_map, option_and_then, if◌then◌else◌, length, nat_lt}
use Rattle.std.specs.Str.{bytes_eq}
use Rattle.mps_base.specs.Sorts.{same_sort}
use Rattle.mps_local.specs.Actions.{branch_at, labels}
use Rattle.mps_local.specs.Local.{LocalType, Branches, End, Var, Rec, Send, Recv, Select, Branch, NoMore, More}
use Rattle.mps_local.specs.declared.merging.Merging.{Merging}
use Rattle.mps_local.specs.declared.merging.Merging.TheVariants.{Plain, Full}
use Rattle.mps_local.specs.declared.merging.MergeFault.{MergeFault}
use Rattle.mps_local.specs.declared.merging.MergeFault.TheVariants as faults

infixl 10 ◌>>=◌
abbrev pub ◌>>=◌ : {A B : Type 0} → Option A → (A → Option B) → Option B
o >>= f = option_and_then f o

abbrev mutual
  -- whether two types are the same tree. That this is equality is the law same_is_equality
  pub same : LocalType → LocalType → Bool
  same End End = true
  same (Var name) (Var other) = bytes_eq name other
  same (Rec name body) (Rec other rest) = bytes_eq name other && same body rest
  same (Send peer sort next) (Send from of rest) = peer == from && same_sort sort of && same next rest
  same (Recv peer sort next) (Recv from of rest) = peer == from && same_sort sort of && same next rest
  same (Select peer branches) (Select from rest) = peer == from && same_branches branches rest
  same (Branch peer branches) (Branch from rest) = peer == from && same_branches branches rest
  same t u = false

  -- whether two lists of branches are
  pub same_branches : Branches → Branches → Bool
  same_branches NoMore NoMore = true
  same_branches (More label next others) (More other rest more) =
      bytes_eq label other && same next rest && same_branches others more
  same_branches b c = false

-- the branches without the first that has that label
abbrev pub without : List ℕ → Branches → Branches
without label NoMore = NoMore
without label (More name next others) = if bytes_eq name label then others else More name next (without label others)

-- the branches, if a choice may have so many
abbrev pub if_few : Branches → Option Branches
if_few branches = if nat_lt 16 (length (labels branches)) then None else Some branches

-- what the type was merged to, if there was another to merge it with, else the type
abbrev pub or_itself : LocalType → Option (Option LocalType) → Option LocalType
or_itself t None = Some t
or_itself t (Some both) = both

abbrev mutual
  -- the type of a role that is ready for both: picks from one peer have the labels of both, all else begins alike
  pub merge : LocalType → LocalType → Option LocalType
  merge End End = Some End
  merge (Var name) (Var other) = if bytes_eq name other then Some (Var name) else None
  merge (Rec name body) (Rec other rest) = if bytes_eq name other then option_map (Rec name) (merge body rest) else None
  merge (Send peer sort next) (Send to of rest) =
      if peer == to && same_sort sort of then option_map (Send peer sort) (merge next rest) else None
  merge (Recv peer sort next) (Recv from of rest) =
      if peer == from && same_sort sort of then option_map (Recv peer sort) (merge next rest) else None
  merge (Select peer branches) (Select to rest) =
      if peer == to then option_map (Select peer) (merge_each branches rest) else None
  merge (Branch peer branches) (Branch from rest) =
      if peer == from then option_map (Branch peer) (merge_picks branches rest >>= if_few) else None
  merge t u = None

  -- the same labels in the same order, with what follows each merged
  pub merge_each : Branches → Branches → Option Branches
  merge_each NoMore NoMore = Some NoMore
  merge_each (More label next others) (More name rest more) =
      if bytes_eq label name then (do
        both ← merge next rest
        after ← merge_each others more
        Some (More label both after)) else None
  merge_each b c = None

  -- the labels of the one in their order, and then those that the other has besides; what follows a label of both is
  -- merged
  pub merge_picks : Branches → Branches → Option Branches
  merge_picks NoMore other = Some other
  merge_picks (More label next others) other = do
    both ← or_itself next (option_map (λ u. merge next u) (branch_at label other))
    after ← merge_picks others (without label other)
    Some (More label both after)

-- the same, if they are as many as a choice may have
abbrev pub few_picks : Branches → Branches → Option Branches
few_picks one other = merge_picks one other >>= if_few

-- the type that stands for both: plainly, if they are the same
abbrev pub merge_by : Merging → LocalType → LocalType → Option LocalType
merge_by Plain t u = if same t u then Some t else None
merge_by Full t u = merge t u

-- the type that stands for this one and for what follows each label, merged from the first on
abbrev pub merge_all : Merging → LocalType → Branches → Option LocalType
merge_all merging first NoMore = Some first
merge_all merging first (More label next others) = merge_by merging first next >>= λ both. merge_all merging both others

-- the one type that stands for each branch
abbrev pub merged : Merging → Branches → Option LocalType
merged merging NoMore = None
merged merging (More label next others) = merge_all merging next others

-- the fault says that there is none, or that memory ran out
abbrev pub IsUnmergeable : {A : Type 0} → Option A → MergeFault → Type 0
IsUnmergeable o faults.Unmergeable = o ≡ None
IsUnmergeable o faults.Memory = ⊤
