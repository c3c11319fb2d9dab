-- What waits to be written, and what was written.
use Rattle.std.proofs.Common.{◌≡◌, ℕ, ◌+◌, List, [], ◌∷◌, ◌++◌, refl, ap, sym, ◌∙◌, append_assoc, arith}
use Rattle.std.specs.Prelude.{codes}
use Rattle.std.specs.List.{AllByRecursion}
use Rattle.std.proofs.lemmas.List.{append-nil}
use Rattle.mps_base.specs.Sorts.{sort_word}
use Rattle.mps_base.specs.Spaced.{spaced, with_tokens}
use Rattle.mps_base.proofs.Spaced.{written_all}
use Rattle.mps_local.specs.Local.{LocalType, Branches, Rec, Send, Recv, Select, Branch, More}
use Rattle.mps_local.specs.Text.{name_at, local_tokens, branch_tokens}
use Rattle.mps_local.specs.Private.Writing.{branches_tokens, others_tokens, todo_tokens, todo_weight, IsTodoKnown, left_tokens, left_weight}
use Rattle.mps_local.specs.declared.writing.Todo.{Todo}

-- one more that waits
pub left_more : (roles : List (List ℕ)) (waiting : List Todo) (next : Todo) → left_tokens roles (waiting ++ next ∷ []) ≡ todo_tokens roles next ++ left_tokens roles waiting
left_more roles [] next = sym (append-nil (todo_tokens roles next))
left_more roles (first ∷ waiting) next =
    ap (λ (ts : List (List ℕ)). ts ++ todo_tokens roles first) (left_more roles waiting next) ∙ append_assoc (todo_tokens roles next) (left_tokens roles waiting) (todo_tokens roles first)

pub weight_more : (waiting : List Todo) (next : Todo) → left_weight (waiting ++ next ∷ []) ≡ todo_weight next + left_weight waiting
weight_more [] next = omega arith
weight_more (first ∷ waiting) next = let e = weight_more waiting next in omega (arith, e)

pub more_known : (count : ℕ) (waiting : List Todo) (next : Todo) → IsTodoKnown count next → AllByRecursion (IsTodoKnown count) waiting → AllByRecursion (IsTodoKnown count) (waiting ++ next ∷ [])
more_known count [] next n h = (n, tt)
more_known count (first ∷ waiting) next n h = (h.0, more_known count waiting next n h.1)

pub branches_more : (roles : List (List ℕ)) (label : List ℕ) (next : LocalType) (others : Branches) (left : List (List ℕ)) → branches_tokens roles (More label next others) ++ left ≡ label ∷ codes ":" ∷ (local_tokens roles next ++ (others_tokens roles others ++ left))
branches_more roles label next others left = grind (arith, append_assoc)

-- the tokens of a type, written one after the other, are its text
pub as_text : (roles : List (List ℕ)) (t : LocalType) → with_tokens [] (local_tokens roles t) ≡ spaced (local_tokens roles t)
as_text roles (Rec name body) = written_all (codes "rec") (name ∷ codes "." ∷ local_tokens roles body) (omega arith)
as_text roles (Send peer sort next) = written_all (codes "send") (name_at roles peer ∷ sort_word sort ∷ codes "." ∷ local_tokens roles next) (omega arith)
as_text roles (Recv peer sort next) = written_all (codes "recv") (name_at roles peer ∷ sort_word sort ∷ codes "." ∷ local_tokens roles next) (omega arith)
as_text roles (Select peer branches) = written_all (codes "choose") (name_at roles peer ∷ codes "{" ∷ branch_tokens roles branches ++ codes "}" ∷ []) (omega arith)
as_text roles (Branch peer branches) = written_all (codes "pick") (name_at roles peer ∷ codes "{" ∷ branch_tokens roles branches ++ codes "}" ∷ []) (omega arith)
as_text roles other = refl
