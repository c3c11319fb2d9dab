-- How local types are spelled.
use Rattle.std.specs.Prelude.{ℕ, List, [], ◌∷◌, ◌++◌, codes, get_or}
use Rattle.mps_base.specs.Sorts.{sort_word}
use Rattle.mps_base.specs.Spaced.{spaced}
use Rattle.mps_local.specs.Local.{LocalType, Branches, End, Var, Rec, Send, Recv, Select, Branch, NoMore, More}

-- the name of the role at that place
abbrev pub name_at : List (List ℕ) → ℕ → List ℕ
name_at roles place = get_or roles place []

abbrev mutual
  -- the tokens of a local type
  pub local_tokens : (roles : List (List ℕ)) → LocalType → List (List ℕ)
  local_tokens roles End = codes "end" ∷ []
  local_tokens roles (Var name) = name ∷ []
  local_tokens roles (Rec name body) = codes "rec" ∷ name ∷ codes "." ∷ local_tokens roles body
  local_tokens roles (Send peer sort next) =
      codes "send" ∷ name_at roles peer ∷ sort_word sort ∷ codes "." ∷ local_tokens roles next
  local_tokens roles (Recv peer sort next) =
      codes "recv" ∷ name_at roles peer ∷ sort_word sort ∷ codes "." ∷ local_tokens roles next
  local_tokens roles (Select peer branches) =
      codes "choose" ∷ name_at roles peer ∷ codes "{" ∷ branch_tokens roles branches ++ codes "}" ∷ []
  local_tokens roles (Branch peer branches) =
      codes "pick" ∷ name_at roles peer ∷ codes "{" ∷ branch_tokens roles branches ++ codes "}" ∷ []

  -- the tokens of branches, with a comma between two
  pub branch_tokens : (roles : List (List ℕ)) → Branches → List (List ℕ)
  branch_tokens roles NoMore = []
  branch_tokens roles (More label next NoMore) = label ∷ codes ":" ∷ local_tokens roles next
  branch_tokens roles (More label next others) =
      label ∷ codes ":" ∷ local_tokens roles next ++ codes "," ∷ branch_tokens roles others

-- its text: the tokens with one space between two
abbrev pub local_text : (roles : List (List ℕ)) → LocalType → List ℕ
local_text roles t = spaced (local_tokens roles t)
