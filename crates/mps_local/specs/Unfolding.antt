-- Recursive types are their unfoldings: a recursive type allows what its body allows with the type in the place of its
-- variable (Honda, Yoshida, Carbone, POPL 2008).
use Rattle.std.specs.Prelude.{ℕ, zero, suc, ◌+◌, if◌then◌else◌, List}
use Rattle.std.specs.Str.{bytes_eq}
use Rattle.mps_local.specs.Local.{LocalType, Branches, End, Var, Rec, Send, Recv, Select, Branch, NoMore, More}

abbrev mutual
  -- u with the closed type t in the place of the variable x, wherever x is free
  pub replaced : List ℕ → LocalType → LocalType → LocalType
  replaced x t End = End
  replaced x t (Var y) = if bytes_eq y x then t else Var y
  replaced x t (Rec y u) = if bytes_eq y x then Rec y u else Rec y (replaced x t u)
  replaced x t (Send peer sort u) = Send peer sort (replaced x t u)
  replaced x t (Recv peer sort u) = Recv peer sort (replaced x t u)
  replaced x t (Select peer branches) = Select peer (replaced_in x t branches)
  replaced x t (Branch peer branches) = Branch peer (replaced_in x t branches)

  pub replaced_in : List ℕ → LocalType → Branches → Branches
  replaced_in x t NoMore = NoMore
  replaced_in x t (More label u others) = More label (replaced x t u) (replaced_in x t others)

-- the body of a recursive type, with the type in the place of its variable; another type as it is
abbrev pub opened : LocalType → LocalType
opened (Rec x u) = replaced x (Rec x u) u
opened t = t

-- how many `rec` a type begins with
abbrev pub leading : LocalType → ℕ
leading (Rec x u) = leading u + 1
leading t = 0

abbrev pub opened_times : ℕ → LocalType → LocalType
opened_times zero t = t
opened_times (suc n) t = opened_times n (opened t)

-- the type as an action or an end: each `rec` that it begins with is opened once
unfoldable pub unfolded : LocalType → LocalType
unfolded t = opened_times (leading t) t
