-- What waits to be made.
use Rattle.std.proofs.Common.{◌≡◌, ◌+◌, List, [], ◌∷◌, ◌++◌, refl, ap, arith}
use Rattle.mps_local.specs.declared.copying.Todo.{Todo}
use Rattle.mps_local.specs.Private.Copying.{Stacks, with_next, with_all, todo_weight, left_weight}

-- one more that waits is made first
pub all_more : (waiting : List Todo) (next : Todo) (s : Stacks) → with_all (waiting ++ next ∷ []) s ≡ with_all waiting (with_next next s)
all_more [] next s = refl
all_more (first ∷ waiting) next s = ap (with_next first) (all_more waiting next s)

pub weight_more : (waiting : List Todo) (next : Todo) → left_weight (waiting ++ next ∷ []) ≡ left_weight waiting + todo_weight next
weight_more [] next = refl
weight_more (first ∷ waiting) next = let e = weight_more waiting next in omega (arith, e)
