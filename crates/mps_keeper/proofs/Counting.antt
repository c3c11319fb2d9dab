-- Numbers that lead from one last number to another.
use Rattle.std.proofs.Common.{ℕ, List, [], ◌∷◌, ◌++◌, subst}
use Rattle.std.specs.Prelude.{Option, None, Some}
use Rattle.mps_keeper.specs.Numbering.{CountsUp}

-- numbers after numbers
pub counts_on : (a b c : ℕ) (m n : List (Option ℕ)) → CountsUp a m b → CountsUp b n c → CountsUp a (m ++ n) c
counts_on a b c [] n h k = subst (λ (x : ℕ). CountsUp x n c) h k
counts_on a b c (None ∷ m) n h k = counts_on a b c m n h k
counts_on a b c (Some i ∷ m) n h k = (h.0, counts_on i b c m n h.1 k)
