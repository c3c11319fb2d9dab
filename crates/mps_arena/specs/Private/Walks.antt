-- The keyed steps, as a walk over the nodes finds them.
use Rattle.std.specs.Prelude.{ℕ, zero, suc, List, [], ◌∷◌, Option, Some, None}
use Rattle.std.specs.Option.{option_map, unwrap_or}
use Rattle.mps_arena.specs.declared.node.Node.{Node}
use Rattle.mps_arena.specs.KeyedSteps.{KeyedStep}

-- the keyed step that a node keeps
abbrev keyed : ℕ → Node → KeyedStep
keyed k n = record { key = k; step = n.step; before = record { at = n.at; bound = n.bound }; marked = n.marked }

-- so many keyed steps, from the node at this key on
abbrev pub walk : (ℕ → Option Node) → ℕ → Option ℕ → List KeyedStep
walk look zero at = []
walk look (suc n) None = []
walk look (suc n) (Some k) =
    unwrap_or (option_map (λ node. keyed k node ∷ walk look n node.next) (look k)) []
