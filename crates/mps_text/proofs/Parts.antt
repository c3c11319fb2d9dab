-- The tokens that begin nodes are the first ones of the nodes.
use Rattle.std.proofs.Common.{◌≡◌, ℕ, ◌+◌, List, [], ◌∷◌, ◌++◌, length, map, refl, ◌∙◌, arith}
use Rattle.std.specs.Prelude.{codes, filter_map}
use Rattle.std.proofs.lemmas.List.{append-nil, map-append}
use Rattle.std.proofs.lemmas.List.Elements.{filter_map-append}
use Rattle.mps_global.specs.Global.{GlobalType, Branches, End, Var, Rec, Message, Choice, NoMore, More}
use Rattle.mps_global.specs.Path.{Edge, Loop, Act, Place, level}
use Rattle.mps_global.specs.Faults.{places, branch_places}
use Rattle.mps_text.specs.Grammar.{inside, node_parts, branch_parts, protocol_parts, begun_by, first_token_of}

-- a node's first token and its depth
abbrev pub begun_at : Place GlobalType → List ℕ × ℕ
begun_at p = (first_token_of p.node, level p)

none_inside : (tokens : List (List ℕ)) → filter_map begun_by (inside tokens) ≡ []
none_inside [] = refl
none_inside (token ∷ tokens) = none_inside tokens

node_first : (token : List ℕ) (a b : ℕ) (xs ys : List (List ℕ × ℕ)) → a ≡ b → xs ≡ ys → (token, a) ∷ xs ≡ (token, b) ∷ ys
node_first token a b xs ys e f = rw (e, f) refl

mutual
  begun_nodes : (above : List Edge) (tree : GlobalType) (depth : ℕ) → depth ≡ length above + 1 → filter_map begun_by (node_parts depth tree) ≡ map begun_at (places above tree)
  begun_nodes above End depth e = grind arith
  begun_nodes above (Var name) depth e = grind arith
  begun_nodes above (Rec name body) depth e =
      let below = Loop name ∷ above in
      cc (node_first (codes "rec") depth (length above + 1) (filter_map begun_by (node_parts (depth + 1) body)) (map begun_at (places below body)) e (begun_nodes below body (depth + 1) (omega (arith, e))))
  begun_nodes above (Message sender receiver sort next) depth e =
      let below = Act ∷ above in
      cc (node_first sender depth (length above + 1) (filter_map begun_by (node_parts (depth + 1) next)) (map begun_at (places below next)) e (begun_nodes below next (depth + 1) (omega (arith, e))))
  begun_nodes above (Choice sender receiver branches) depth e =
      let below = Act ∷ above in
      let parts = branch_parts (depth + 1) branches in
      cc (node_first sender depth (length above + 1) (filter_map begun_by (parts ++ inside (codes "}" ∷ []))) (map begun_at (branch_places below branches)) e (filter_map-append begun_by parts (inside (codes "}" ∷ [])) ∙ append-nil (filter_map begun_by parts) ∙ begun_branches below branches (depth + 1) (omega (arith, e))))

  begun_branches : (above : List Edge) (branches : Branches) (depth : ℕ) → depth ≡ length above + 1 → filter_map begun_by (branch_parts depth branches) ≡ map begun_at (branch_places above branches)
  begun_branches above NoMore depth e = refl
  begun_branches above (More label next NoMore) depth e = cc (begun_nodes above next depth e, append-nil (places above next))
  begun_branches above (More label next (More second then others)) depth e =
      let more = branch_parts depth (More second then others) in
      cc (filter_map-append begun_by (node_parts depth next ++ inside (codes "," ∷ [])) more, filter_map-append begun_by (node_parts depth next) (inside (codes "," ∷ [])), append-nil (filter_map begun_by (node_parts depth next)), begun_nodes above next depth e, begun_branches above (More second then others) depth e, map-append begun_at (places above next) (branch_places above (More second then others)))

pub begun_protocol : (roles : List (List ℕ)) (tree : GlobalType) → filter_map begun_by (protocol_parts roles tree) ≡ map begun_at (places [] tree)
begun_protocol roles tree = search (filter_map-append, append-nil, none_inside, begun_nodes, arith)
