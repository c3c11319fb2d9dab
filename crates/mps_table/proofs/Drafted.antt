-- What a draft has after several steps.
use Rattle.std.proofs.Common.{◌≡◌, ℕ, ◌+◌, ◌≤◌, List, [], ◌∷◌, length, refl, sym, subst, arith, length-append, append_assoc, Result}
use Rattle.std.specs.Prelude.{OnOk}
use Rattle.mps_base.specs.declared.value.Sort.{Sort}
use Rattle.mps_local.specs.Local.{LocalType, Branches, End, Var, Rec, Send, Recv, Select, Branch, NoMore, More}
use Rattle.mps_local.specs.Actions.{labels}
use Rattle.mps_table.specs.declared.row.TableRow.{TableRow}
use Rattle.mps_table.specs.declared.row.TableRow.TheVariants as rows
use Rattle.mps_table.specs.declared.laying.Draft.{Draft}
use Rattle.mps_table.specs.Private.Laying.{Places, put_node, size, branch_size, start, all_rows, branch_rows, all_labels, branch_labels, all_targets}
use Rattle.mps_table.specs.Private.Drafts.{Adds, Lays, LaysBranches, row_count, label_count}

mutual
  pub length-all_rows : (places : Places) (at first : ℕ) (t : LocalType) → length (all_rows places at first t) ≡ size t
  length-all_rows places at first End = refl
  length-all_rows places at first (Var x) = refl
  length-all_rows places at first (Rec x u) = length-all_rows (put_node x (start places at u) places) at first u
  length-all_rows places at first (Send peer sort u) = let k = length-all_rows places (at + 1) first u in omega (arith, k)
  length-all_rows places at first (Recv peer sort u) = let k = length-all_rows places (at + 1) first u in omega (arith, k)
  length-all_rows places at first (Select peer b) = let k = length-branch_rows places (at + 1) (first + length (labels b)) b in omega (arith, k)
  length-all_rows places at first (Branch peer b) = let k = length-branch_rows places (at + 1) (first + length (labels b)) b in omega (arith, k)

  length-branch_rows : (places : Places) (at first : ℕ) (b : Branches) → length (branch_rows places at first b) ≡ branch_size b
  length-branch_rows places at first NoMore = refl
  length-branch_rows places at first (More label u others) =
      omega (
        arith,
        length-append (all_rows places at first u) (branch_rows places (at + size u) (first + length (all_labels u)) others),
        length-all_rows places at first u,
        length-branch_rows places (at + size u) (first + length (all_labels u)) others,
      )

-- how many rows and labels are there then
pub rows_then : (a b : Draft) (places : Places) (t : LocalType) → Lays a b places t → row_count b ≡ row_count a + size t
rows_then a b places t p = grind (arith, length-append, length-all_rows)

pub labels_then : (a b : Draft) (places : Places) (t : LocalType) → Lays a b places t → label_count b ≡ label_count a + length (all_labels t)
labels_then a b places t p = grind (arith, length-append)

-- a row and then what follows it
pub row_first : (a b c : Draft) (places : Places) (row : TableRow) (u : LocalType) → Adds a b (row ∷ []) [] [] → Lays b c places u → Adds a c (row ∷ all_rows places (row_count a + 1) (label_count a) u) (all_labels u) (all_targets places (row_count a + 1) u)
row_first a b c places row u p q = grind (arith, append_assoc, length-append)

-- an output, whose row leads to the start of what follows
pub send_lays : (a b c : Draft) (places : Places) (peer : ℕ) (sort : Sort) (node at : ℕ) (t u v w : LocalType) → t ≡ Send peer sort u → v ≡ u → w ≡ u → at ≡ row_count a → node ≡ start places (at + 1) v → Adds a b (rows.Send peer sort node ∷ []) [] [] → Lays b c places w → Lays a c places t
send_lays a b c places peer sort node at t u v w is same next place from p q =
    let node_is : node ≡ start places (row_count a + 1) u = rw (← place, ← same) from in
    let first = subst (λ (n : ℕ). Adds a b (rows.Send peer sort n ∷ []) [] []) node_is p in
    let rest = subst (λ (x : LocalType). Lays b c places x) next q in
    subst (λ (x : LocalType). Lays a c places x) (sym is) (row_first a b c places (rows.Send peer sort (start places (row_count a + 1) u)) u first rest)

-- an input likewise
pub recv_lays : (a b c : Draft) (places : Places) (peer : ℕ) (sort : Sort) (node at : ℕ) (t u v w : LocalType) → t ≡ Recv peer sort u → v ≡ u → w ≡ u → at ≡ row_count a → node ≡ start places (at + 1) v → Adds a b (rows.Recv peer sort node ∷ []) [] [] → Lays b c places w → Lays a c places t
recv_lays a b c places peer sort node at t u v w is same next place from p q =
    let node_is : node ≡ start places (row_count a + 1) u = rw (← place, ← same) from in
    let first = subst (λ (n : ℕ). Adds a b (rows.Recv peer sort n ∷ []) [] []) node_is p in
    let rest = subst (λ (x : LocalType). Lays b c places x) next q in
    subst (λ (x : LocalType). Lays a c places x) (sym is) (row_first a b c places (rows.Recv peer sort (start places (row_count a + 1) u)) u first rest)

-- a branch and then the others
pub branch_first : (a b c : Draft) (places : Places) (label : List ℕ) (u : LocalType) (others : Branches) → Lays a b places u → LaysBranches b c places others → LaysBranches a c places (More label u others)
branch_first a b c places label u others p q = grind (arith, append_assoc, rows_then, labels_then)

-- the same, of a list of branches that begins so
pub more_lays : (a b c : Draft) (places : Places) (label : List ℕ) (bs : Branches) (u v : LocalType) (others rest : Branches) → bs ≡ More label u others → v ≡ u → rest ≡ others → Lays a b places v → LaysBranches b c places rest → LaysBranches a c places bs
more_lays a b c places label bs u v others rest is same left p q =
    let first = subst (λ (x : LocalType). Lays a b places x) same p in
    let then = subst (λ (x : Branches). LaysBranches b c places x) left q in
    subst (λ (x : Branches). LaysBranches a c places x) (sym is) (branch_first a b c places label u others first then)

-- what fits for a type and then for other branches, fits for those once the type is laid out
pub fits_then : (a b : Draft) (places : Places) (label : List ℕ) (bs : Branches) (u v : LocalType) (others rest : Branches) → bs ≡ More label u others → v ≡ u → rest ≡ others → Lays a b places v → row_count a + branch_size bs ≤ 256 → label_count a + length (branch_labels bs) ≤ 256 → (row_count b + branch_size rest ≤ 256) × (label_count b + length (branch_labels rest) ≤ 256)
fits_then a b places label bs u v others rest is same left p f g = grind (arith, rows_then, labels_then, length-append)

pub on_ok : {A E : Type 0} (r : Result A E) (P Q : Type 0) → (P → Q) → OnOk r P → OnOk r Q
on_ok r P Q f p = grind arith
