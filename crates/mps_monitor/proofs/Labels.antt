-- Where a label stands, and what follows it.
use Rattle.std.proofs.Common.{◌≡◌, ℕ, suc, ◌+◌, Bool, true, false, cond, List, [], ◌∷◌, Option, None, Some, refl, sym, ap, ◌∙◌, subst, arith}
use Rattle.std.specs.Prelude.{is_some, slice_get}
use Rattle.std.specs.List.{position_from}
use Rattle.std.specs.Str.{bytes_eq}
use Rattle.std.proofs.lemmas.Iterator.Adapters.{position_from-zero}
use Rattle.mps_local.specs.Actions.{branch_at, labels, nexts}
use Rattle.mps_local.specs.Local.{LocalType, Branches, End, NoMore, More}
use Rattle.mps_monitor.specs.Private.Verdicts.{place_of_label, ending}

-- the first place, counted from i
abbrev pub place_from : List (List ℕ) → List ℕ → ℕ → Option ℕ
place_from names label i = position_from (λ other. bytes_eq other label) i names

counted : (names : List (List ℕ)) (label : List ℕ) → place_of_label names label ≡ place_from names label 0
counted names label = position_from-zero (λ other. bytes_eq other label) names

-- the type at that place among these follows the label
pub record LeadsTo (b : Branches) (label : List ℕ) (place : ℕ) : Type 0 where
  pub next : LocalType
  pub follows : branch_at label b ≡ Some next
  pub stands : slice_get (nexts b) place ≡ Some next

leads_from : (b : Branches) (label : List ℕ) (i k : ℕ) → place_from (labels b) label i ≡ Some k → (j : ℕ) × (k ≡ i + j) × LeadsTo b label j
leads_from NoMore label i k e = absurd cc
leads_from (More l t others) label i k e = by_test (bytes_eq l label) refl e (leads_from others label (i + 1) k)
  where
    by_test : (c : Bool) → bytes_eq l label ≡ c → cond c (Some i) (place_from (labels others) label (i + 1)) ≡ Some k → (place_from (labels others) label (i + 1) ≡ Some k → (j : ℕ) × (k ≡ i + 1 + j) × LeadsTo others label j) → (j : ℕ) × (k ≡ i + j) × LeadsTo (More l t others) label j
    by_test true h f again = (0, let same : i ≡ k = cc in omega (arith, same), record { next = t; follows = rw h refl; stands = refl })
    by_test false h f again =
        let r = again f in
        let n = r.1 in
        (suc r.0, omega (arith, n), record { next = r.2.next; follows = rw h r.2.follows; stands = r.2.stands })

-- a label leads to what stands at its first place
pub leads : (b : Branches) (label : List ℕ) (k : ℕ) → place_of_label (labels b) label ≡ Some k → LeadsTo b label k
leads b label k e =
    let r = leads_from b label 0 k (sym (counted (labels b) label) ∙ e) in
    let n = r.1 in
    let same : r.0 ≡ k = omega (arith, n) in
    subst (λ (j : ℕ). LeadsTo b label j) same r.2

nowhere : (b : Branches) (label : List ℕ) (i : ℕ) → place_from (labels b) label i ≡ None → branch_at label b ≡ None
nowhere NoMore label i e = refl
nowhere (More l t others) label i e = by_test (bytes_eq l label) e (nowhere others label (i + 1))
  where
    by_test : (c : Bool) → cond c (Some i) (place_from (labels others) label (i + 1)) ≡ None → (place_from (labels others) label (i + 1) ≡ None → branch_at label others ≡ None) → cond c (Some t) (branch_at label others) ≡ None
    by_test true f again = absurd cc
    by_test false f again = again f

labels_ending : (names : List (List ℕ)) → labels (ending names) ≡ names
labels_ending [] = refl
labels_ending (name ∷ names) = ap (λ (ns : List (List ℕ)). name ∷ ns) (labels_ending names)

placed_ending : (names : List (List ℕ)) (label : List ℕ) → place_of_label (labels (ending names)) label ≡ place_of_label names label
placed_ending names label = ap (λ (ns : List (List ℕ)). place_of_label ns label) (labels_ending names)

-- a name that has no place is no label
pub not_a_label : (names : List (List ℕ)) (label : List ℕ) → place_of_label names label ≡ None → is_some (branch_at label (ending names)) ≡ false
not_a_label names label e =
    ap is_some (nowhere (ending names) label 0 (sym (counted (labels (ending names)) label) ∙ placed_ending names label ∙ e))

-- and one that has a place is one
pub a_label : (names : List (List ℕ)) (label : List ℕ) (k : ℕ) → place_of_label names label ≡ Some k → is_some (branch_at label (ending names)) ≡ true
a_label names label k e = ap is_some (leads (ending names) label k (placed_ending names label ∙ e)).follows

-- whether a label is there does not depend on what follows
pub same_labels : (b : Branches) (label : List ℕ) → is_some (branch_at label b) ≡ is_some (branch_at label (ending (labels b)))
same_labels NoMore label = refl
same_labels (More l t others) label = by_test (bytes_eq l label) (same_labels others label)
  where
    by_test : (c : Bool) → is_some (branch_at label others) ≡ is_some (branch_at label (ending (labels others))) → is_some (cond c (Some t) (branch_at label others)) ≡ is_some (cond c (Some End) (branch_at label (ending (labels others))))
    by_test true h = refl
    by_test false h = h
