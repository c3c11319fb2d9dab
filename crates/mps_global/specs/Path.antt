-- The path to a node of a global or a local type, for the variables below it.
use Rattle.std.specs.Prelude.{ℕ, ◌+◌, Bool, true, false, not, List, [], ◌∷◌, length, take_while}
use Rattle.std.specs.List.{list_any}
use Rattle.std.specs.Str.{bytes_eq}
use Rattle.mps_global.specs.declared.path.Above.{Above, Root, Loop', Act'}

-- an edge of the path: it comes from the `rec` of a variable, or from an act
pub data Edge : Type 0 where
  Loop : (name : List ℕ) → Edge
  Act : Edge

-- a node, and the path to it, the nearest edge first
pub record Place (Node : Type 0) : Type 0 where
  pub node : Node
  pub above : List Edge

abbrev pub place : {Node : Type 0} → Node → List Edge → Place Node
place node above = record { node = node; above = above }

-- how many nodes stand on the path from the root to a node, with both
abbrev pub level : {Node : Type 0} → Place Node → ℕ
level p = length p.above + 1

-- whether it comes from the `rec` of that variable
abbrev pub binds : List ℕ → Edge → Bool
binds name (Loop bound) = bytes_eq name bound
binds name Act = false

abbrev pub is_act : Edge → Bool
is_act (Loop bound) = false
is_act Act = true

-- whether a `rec` of that variable stands on the path
abbrev pub is_bound : List ℕ → List Edge → Bool
is_bound name above = list_any (binds name) above

-- whether a `rec` of that variable stands below the nearest act: among the nodes up to the first act
abbrev pub is_unguarded : List ℕ → List Edge → Bool
is_unguarded name above = list_any (binds name) (take_while (λ edge. not (is_act edge)) above)

-- the path that the program has
abbrev pub edges : Above → List Edge
edges Root = []
edges (Loop' name p above) = Loop name.now ∷ edges above
edges (Act' p above) = Act ∷ edges above
