-- When protocols are the same but for the names of variables.
use Rattle.std.specs.Prelude.{◌≡◌, ℕ, List, [], ◌∷◌, Option, None, Some, map, position}
use Rattle.std.specs.Str.{bytes_eq}
use Rattle.mps_local.specs.Local.{LocalType, Branches, End, Var, Rec, Send, Recv, Select, Branch, NoMore, More}

-- how many loops stand within the innermost of these that has that name, if one has
abbrev pub place_of : List ℕ → List (List ℕ) → Option ℕ
place_of name loops = position (λ inner. bytes_eq inner name) loops

-- a variable of that name by its loop's place; one without a loop keeps its name
abbrev pub told : List ℕ → Option ℕ → List ℕ
told name None = 1 ∷ name
told name (Some place) = 0 ∷ place ∷ []

abbrev mutual
  -- a type without the names of its loops, within loops of these names, the innermost first: a variable is told by how many
  -- loops stand between it and its own
  pub nameless : List (List ℕ) → LocalType → LocalType
  nameless loops End = End
  nameless loops (Var name) = Var (told name (place_of name loops))
  nameless loops (Rec name body) = Rec [] (nameless (name ∷ loops) body)
  nameless loops (Send peer sort next) = Send peer sort (nameless loops next)
  nameless loops (Recv peer sort next) = Recv peer sort (nameless loops next)
  nameless loops (Select peer branches) = Select peer (nameless_branches loops branches)
  nameless loops (Branch peer branches) = Branch peer (nameless_branches loops branches)

  -- the same of branches
  pub nameless_branches : List (List ℕ) → Branches → Branches
  nameless_branches loops NoMore = NoMore
  nameless_branches loops (More label next others) = More label (nameless loops next) (nameless_branches loops others)

-- two protocols have the same roles, and each role has the same type but for the names of variables
pub record AreAlike (names : List (List ℕ)) (types : List LocalType) (others : List (List ℕ)) (other_types : List LocalType) : Type 0 where
  pub same_roles : names ≡ others
  pub same_types : map (nameless []) types ≡ map (nameless []) other_types
