-- What is laid out is no larger than it has to be.
use Rattle.std.proofs.Common.{◌≡◌, ℕ, List, [], ◌∷◌, ◌++◌, length, refl, sym, ap, ◌∙◌, arith, length-append}
use Rattle.std.specs.Prelude.{filter, flat_map}
use Rattle.std.proofs.lemmas.Grind.{flat_map-append}
use Rattle.std.proofs.lemmas.List.Elements.{filter-append}
use Rattle.mps_global.specs.Path.{Edge, Loop, Act, Place}
use Rattle.mps_local.specs.Local.{LocalType, Branches, End, Var, Rec, Send, Recv, Select, Branch, NoMore, More}
use Rattle.mps_local.specs.Actions.{labels}
use Rattle.mps_local.specs.LocalFaults.{places, branch_places}
use Rattle.mps_table.specs.declared.laying.Draft.{Draft}
use Rattle.mps_table.specs.Private.Drafts.{IsLaidOut, nowhere}
use Rattle.mps_table.specs.Private.Laying.{size, branch_size, all_labels, branch_labels}
use Rattle.mps_table.specs.Sizes.{has_row, node_labels, acts_and_ends, labels_of_choices}
use Rattle.mps_table.proofs.Drafted.{length-all_rows}

abbrev acts : List (Place LocalType) → List (Place LocalType)
acts ps = filter (λ p. has_row p.node) ps

mutual
  -- a type has as many actions and ends as it has rows
  as_many : (above : List Edge) (t : LocalType) → length (acts (places above t)) ≡ size t
  as_many above End = refl
  as_many above (Var x) = refl
  as_many above (Rec x u) = as_many (Loop x ∷ above) u
  as_many above (Send peer sort u) = omega (arith, as_many (Act ∷ above) u)
  as_many above (Recv peer sort u) = omega (arith, as_many (Act ∷ above) u)
  as_many above (Select peer branches) = omega (arith, branches_as_many (Act ∷ above) branches)
  as_many above (Branch peer branches) = omega (arith, branches_as_many (Act ∷ above) branches)

  branches_as_many : (above : List Edge) (branches : Branches) → length (acts (branch_places above branches)) ≡ branch_size branches
  branches_as_many above NoMore = refl
  branches_as_many above (More label u others) =
      omega (
        arith,
        ap length (filter-append (λ p. has_row p.node) (places above u) (branch_places above others)),
        length-append (acts (places above u)) (acts (branch_places above others)),
        as_many above u,
        branches_as_many above others,
      )

abbrev labels_at : List (Place LocalType) → List (List ℕ)
labels_at ps = flat_map (λ p. node_labels p.node) ps

mutual
  -- the labels that are laid out are those of its choices
  same_labels : (above : List Edge) (t : LocalType) → labels_at (places above t) ≡ all_labels t
  same_labels above End = refl
  same_labels above (Var x) = refl
  same_labels above (Rec x u) = same_labels (Loop x ∷ above) u
  same_labels above (Send peer sort u) = same_labels (Act ∷ above) u
  same_labels above (Recv peer sort u) = same_labels (Act ∷ above) u
  same_labels above (Select peer branches) = ap (λ ls. labels branches ++ ls) (same_branch_labels (Act ∷ above) branches)
  same_labels above (Branch peer branches) = ap (λ ls. labels branches ++ ls) (same_branch_labels (Act ∷ above) branches)

  same_branch_labels : (above : List Edge) (branches : Branches) → labels_at (branch_places above branches) ≡ branch_labels branches
  same_branch_labels above NoMore = refl
  same_branch_labels above (More label u others) =
      let both = flat_map-append (λ (p : Place LocalType). node_labels p.node) (places above u) (branch_places above others) in
      let one = same_labels above u in
      let rest = same_branch_labels above others in
      cc (both, one, rest)

-- the draft of a type has a row for each action and end
pub draft_rows : (d : Draft) (node : ℕ) (t : LocalType) → IsLaidOut d node t → length d.rows.items ≡ length (acts_and_ends t)
draft_rows d node t p = ap length p.rows ∙ length-all_rows nowhere 0 0 t ∙ sym (as_many [] t)

-- and the labels of its choices
pub draft_labels : (d : Draft) (node : ℕ) (t : LocalType) → IsLaidOut d node t → length d.labels.items ≡ length (labels_of_choices t)
draft_labels d node t p = ap length p.labels ∙ sym (ap length (same_labels [] t))
