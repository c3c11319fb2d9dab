-- A draft in which a type is laid out is its table.
use Rattle.std.proofs.Common.{◌≡◌, ℕ, ◌≤◌, true, List, [], length, sym, subst, arith}
use Rattle.mps_local.specs.Local.{LocalType}
use Rattle.mps_local.specs.Shape.{node_count}
use Rattle.mps_local.specs.Loops.{is_closed, is_guarded}
use Rattle.mps_table.specs.declared.row.TableRow.{TableRow}
use Rattle.mps_table.specs.declared.laying.Draft.{Draft}
use Rattle.mps_table.specs.Graph.{Graph}
use Rattle.mps_table.specs.Private.Graph.{IsSound}
use Rattle.mps_table.specs.Standing.{StandsFor}
use Rattle.mps_table.specs.Private.Laying.{size, all_labels, all_rows}
use Rattle.mps_table.specs.Private.Drafts.{IsLaidOut, nowhere}
use Rattle.mps_table.proofs.Laid.{laid_stands, laid_sound, size_small}

pub few_rows : (t : LocalType) (n : ℕ) → node_count t ≤ n → size t ≤ n
few_rows t n h = let k = size_small t in omega arith

pub few_labels : (t : LocalType) (n : ℕ) → node_count t ≤ n → length (all_labels t) ≤ n
few_labels t n h = let k = size_small t in omega arith

pub draft_sound : (d : Draft) (node : ℕ) (t : LocalType) → IsLaidOut d node t → is_closed [] t ≡ true → is_guarded t ≡ true → IsSound d.rows.items d.labels.items d.targets.items node
draft_sound d node t p closed guarded =
    subst (λ (es : List TableRow). IsSound es d.labels.items d.targets.items node) (sym p.rows)
    (subst (λ (ls : List (List ℕ)). IsSound (all_rows nowhere 0 0 t) ls d.targets.items node) (sym p.labels)
    (grind (arith, laid_sound)))

-- the draft as a table
abbrev pub graph_of : Draft → ℕ → Graph
graph_of d node = record { rows = d.rows.items; labels = d.labels.items; targets = d.targets.items; first = node }

pub draft_stands : (d : Draft) (node : ℕ) (t : LocalType) → IsLaidOut d node t → is_closed [] t ≡ true → is_guarded t ≡ true → StandsFor (graph_of d node) node t
draft_stands d node t p closed guarded = grind (arith, laid_stands (graph_of d node) nowhere t closed guarded p.rows p.labels p.targets p.first)
