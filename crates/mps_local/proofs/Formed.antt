-- Types whose loops, labels and peers are as they have to be. What is merged of such types is one.
use Rattle.std.proofs.Common.{arith, ◌≡◌, ℕ, Bool, true, false, cond, List, ◌∷◌, length, Some, refl, sym, ap, ◌∙◌, subst}
use Rattle.std.specs.Prelude.{⊤, ◌||◌, ◌==◌, nat_lt}
use Rattle.std.specs.List.{AllByRecursion, list_any}
use Rattle.std.specs.Str.{bytes_eq}
use Rattle.mps_global.specs.Faults.{is_among, has_double}
use Rattle.mps_local.specs.Actions.{branch_at, labels, nexts}
use Rattle.mps_local.specs.Local.{LocalType, Branches, End, Var, Rec, Send, Recv, Select, Branch, NoMore, More}
use Rattle.mps_local.specs.Loops.{ends_in, are_labels}
use Rattle.mps_local.specs.Merged.{without, merge, merge_each, merge_picks, merged}
use Rattle.mps_local.specs.declared.merging.Merging.{Merging}
use Rattle.mps_local.proofs.Equal.{name_is, name_turned}
use Rattle.mps_local.proofs.Merged.{merged_keeps, merge_ends, rec_merged, send_merged, recv_merged, select_merged, pick_merged, each_merged, picks_merged, Met, alone, both}

abbrev mutual
  -- each variable is one of these or that of a `rec` around it; each `rec` has another variable than those around it, and
  -- comes to its own only after an action; the labels of each choice are distinct, 1 to 16; and each peer is such a role
  pub IsFormed : (IsPeer : ℕ → Type 0) (bound : List (List ℕ)) → LocalType → Type 0
  IsFormed IsPeer bound End = ⊤
  IsFormed IsPeer bound (Var x) = list_any (bytes_eq x) bound ≡ true
  IsFormed IsPeer bound (Rec x t) = (list_any (bytes_eq x) bound ≡ false) × (ends_in x t ≡ false) × IsFormed IsPeer (x ∷ bound) t
  IsFormed IsPeer bound (Send p s t) = IsPeer p × IsFormed IsPeer bound t
  IsFormed IsPeer bound (Recv p s t) = IsPeer p × IsFormed IsPeer bound t
  IsFormed IsPeer bound (Select p b) = IsPeer p × (are_labels (labels b) ≡ true) × AreFormed IsPeer bound b
  IsFormed IsPeer bound (Branch p b) = IsPeer p × (are_labels (labels b) ≡ true) × AreFormed IsPeer bound b

  pub AreFormed : (IsPeer : ℕ → Type 0) (bound : List (List ℕ)) → Branches → Type 0
  AreFormed IsPeer bound NoMore = ⊤
  AreFormed IsPeer bound (More l t b) = IsFormed IsPeer bound t × AreFormed IsPeer bound b

pub or_false : (a b : Bool) → (a || b) ≡ false → (a ≡ false) × (b ≡ false)
or_false a b h = grind arith

both_false : (a b : Bool) → a ≡ false → b ≡ false → (a || b) ≡ false
both_false a b h k = grind arith

-- the labels of a merged choice
labels_each : (b c d : Branches) → merge_each b c ≡ Some d → labels d ≡ labels b
labels_each NoMore NoMore d e = let k : NoMore ≡ d = cc in subst (λ (z : Branches). labels z ≡ labels NoMore) k refl
labels_each (More l t b) (More m u c) d e =
    let k = each_merged l m t u b c d e in
    subst (λ (z : Branches). labels z ≡ l ∷ labels b) k.5 (ap (λ (ls : List (List ℕ)). l ∷ ls) (labels_each b c k.1 k.4))
labels_each b c d e = absurd cc

without_among : (l z : List ℕ) (c : Branches) → is_among (labels c) z ≡ false → is_among (labels (without l c)) z ≡ false
without_among l z NoMore h = refl
without_among l z (More m u c) h =
    let parts = or_false (bytes_eq z m) (is_among (labels c) z) h in
    by_test (bytes_eq m l) parts.1
    (both_false (bytes_eq z m) (is_among (labels (without l c)) z) parts.0 (without_among l z c parts.1))
  where
    by_test : (b : Bool) → is_among (labels c) z ≡ false → is_among (labels (More m u (without l c))) z ≡ false → is_among (labels (cond b c (More m u (without l c)))) z ≡ false
    by_test true k n = k
    by_test false k n = n

without_gone : (l : List ℕ) (c : Branches) → has_double (labels c) ≡ false → is_among (labels (without l c)) l ≡ false
without_gone l NoMore h = refl
without_gone l (More m u c) h =
    let parts = or_false (is_among (labels c) m) (has_double (labels c)) h in
    by_test (bytes_eq m l) refl parts.0 (without_gone l c parts.1)
  where
    by_test : (b : Bool) → bytes_eq m l ≡ b → is_among (labels c) m ≡ false → is_among (labels (without l c)) l ≡ false → is_among (labels (cond b c (More m u (without l c)))) l ≡ false
    by_test true e k n = subst (λ (z : List ℕ). is_among (labels c) z ≡ false) (name_is m l e) k
    by_test false e k n = both_false (bytes_eq l m) (is_among (labels (without l c)) l) (name_turned l m ∙ e) n

pub without_distinct : (l : List ℕ) (c : Branches) → has_double (labels c) ≡ false → has_double (labels (without l c)) ≡ false
without_distinct l NoMore h = refl
without_distinct l (More m u c) h =
    let parts = or_false (is_among (labels c) m) (has_double (labels c)) h in
    by_test (bytes_eq m l) parts.1
    (both_false (is_among (labels (without l c)) m) (has_double (labels (without l c))) (without_among l m c parts.0) (without_distinct l c parts.1))
  where
    by_test : (b : Bool) → has_double (labels c) ≡ false → has_double (labels (More m u (without l c))) ≡ false → has_double (labels (cond b c (More m u (without l c)))) ≡ false
    by_test true k n = k
    by_test false k n = n

picks_among : (z : List ℕ) (b c d : Branches) → merge_picks b c ≡ Some d → is_among (labels b) z ≡ false → is_among (labels c) z ≡ false → is_among (labels d) z ≡ false
picks_among z NoMore c d e h k = let i : c ≡ d = cc in subst (λ (y : Branches). is_among (labels y) z ≡ false) i k
picks_among z (More l t b) c d e h k =
    let m = picks_merged l t b c d e in
    let n = or_false (bytes_eq z l) (is_among (labels b) z) h in
    subst (λ (y : Branches). is_among (labels y) z ≡ false) m.4
    (both_false (bytes_eq z l) (is_among (labels m.1) z) n.0 (picks_among z b (without l c) m.1 m.3 n.1 (without_among l z c k)))

picks_distinct : (b c d : Branches) → merge_picks b c ≡ Some d → has_double (labels b) ≡ false → has_double (labels c) ≡ false → has_double (labels d) ≡ false
picks_distinct NoMore c d e h k = let i : c ≡ d = cc in subst (λ (y : Branches). has_double (labels y) ≡ false) i k
picks_distinct (More l t b) c d e h k =
    let m = picks_merged l t b c d e in
    let n = or_false (is_among (labels b) l) (has_double (labels b)) h in
    subst (λ (y : Branches). has_double (labels y) ≡ false) m.4
    (both_false (is_among (labels m.1) l) (has_double (labels m.1))
    (picks_among l b (without l c) m.1 m.3 n.0 (without_gone l c k))
    (picks_distinct b (without l c) m.1 m.3 n.1 (without_distinct l c k)))

-- there is a label
abbrev are_none : Branches → Bool
are_none b = length (labels b) == 0

some_label : (l : List ℕ) (w : LocalType) (ws : Branches) → are_none (More l w ws) ≡ false
some_label l w ws = grind arith

picks_some : (b c d : Branches) → merge_picks b c ≡ Some d → are_none b ≡ false → are_none d ≡ false
picks_some NoMore c d e h = absurd cc
picks_some (More l t b) c d e h = let m = picks_merged l t b c d e in subst (λ (y : Branches). are_none y ≡ false) m.4 (some_label l m.0 m.1)

pub label_parts : (names : List (List ℕ)) → are_labels names ≡ true → (has_double names ≡ false) × (nat_lt 16 (length names) ≡ false) × ((length names == 0) ≡ false)
label_parts names h = grind arith

label_all : (names : List (List ℕ)) → has_double names ≡ false → nat_lt 16 (length names) ≡ false → (length names == 0) ≡ false → are_labels names ≡ true
label_all names a b c = grind arith

picks_labels : (b c d : Branches) → merge_picks b c ≡ Some d → nat_lt 16 (length (labels d)) ≡ false → are_labels (labels b) ≡ true → are_labels (labels c) ≡ true → are_labels (labels d) ≡ true
picks_labels b c d e few h k =
    let m = label_parts (labels b) h in
    let n = label_parts (labels c) k in
    label_all (labels d) (picks_distinct b c d e m.0 n.0) few (picks_some b c d e m.2)

-- what follows a label, and the branches without it
pub branch_formed : (IsPeer : ℕ → Type 0) (bound : List (List ℕ)) (l : List ℕ) (c : Branches) (u : LocalType) → branch_at l c ≡ Some u → AreFormed IsPeer bound c → IsFormed IsPeer bound u
branch_formed IsPeer bound l NoMore u e h = absurd cc
branch_formed IsPeer bound l (More m t c) u e h = by_test (bytes_eq m l) e (λ f. branch_formed IsPeer bound l c u f h.1)
  where
    by_test : (b : Bool) → cond b (Some t) (branch_at l c) ≡ Some u → (branch_at l c ≡ Some u → IsFormed IsPeer bound u) → IsFormed IsPeer bound u
    by_test true f again = let i : t ≡ u = cc in subst (IsFormed IsPeer bound) i h.0
    by_test false f again = again f

pub without_formed : (IsPeer : ℕ → Type 0) (bound : List (List ℕ)) (l : List ℕ) (c : Branches) → AreFormed IsPeer bound c → AreFormed IsPeer bound (without l c)
without_formed IsPeer bound l NoMore h = tt
without_formed IsPeer bound l (More m t c) h = by_test (bytes_eq m l) (without_formed IsPeer bound l c h.1)
  where
    by_test : (b : Bool) → AreFormed IsPeer bound (without l c) → AreFormed IsPeer bound (cond b c (More m t (without l c)))
    by_test true k = h.1
    by_test false k = (h.0, k)

met_formed : (IsPeer : ℕ → Type 0) (bound : List (List ℕ)) (l : List ℕ) (t : LocalType) (c : Branches) (w : LocalType) → Met t (branch_at l c) w → IsFormed IsPeer bound t → AreFormed IsPeer bound c → ((u : LocalType) → merge t u ≡ Some w → IsFormed IsPeer bound u → IsFormed IsPeer bound w) → IsFormed IsPeer bound w
met_formed IsPeer bound l t c w (alone e f) h k again = subst (IsFormed IsPeer bound) f h
met_formed IsPeer bound l t c w (both u e f) h k again = again u f (branch_formed IsPeer bound l c u e k)

mutual
  pub merge_formed : (IsPeer : ℕ → Type 0) (bound : List (List ℕ)) (t u v : LocalType) → merge t u ≡ Some v → IsFormed IsPeer bound t → IsFormed IsPeer bound u → IsFormed IsPeer bound v
  merge_formed IsPeer bound End End v e h k = let i : End ≡ v = cc in subst (IsFormed IsPeer bound) i tt
  merge_formed IsPeer bound (Var x) (Var y) v e h k = grind arith
  merge_formed IsPeer bound (Rec x t) (Rec y u) v e h k =
      let m = rec_merged x y t u v e in
      subst (IsFormed IsPeer bound) m.3
      (h.0, (merge_ends x t u m.0 m.2).0 ∙ h.1, merge_formed IsPeer (x ∷ bound) t u m.0 m.2 h.2 (subst (λ (z : List ℕ). IsFormed IsPeer (z ∷ bound) u) (sym m.1) k.2))
  merge_formed IsPeer bound (Send p s t) (Send q r u) v e h k =
      let m = send_merged p q s r t u v e in subst (IsFormed IsPeer bound) m.4 (h.0, merge_formed IsPeer bound t u m.0 m.3 h.1 k.1)
  merge_formed IsPeer bound (Recv p s t) (Recv q r u) v e h k =
      let m = recv_merged p q s r t u v e in subst (IsFormed IsPeer bound) m.4 (h.0, merge_formed IsPeer bound t u m.0 m.3 h.1 k.1)
  merge_formed IsPeer bound (Select p b) (Select q c) v e h k =
      let m = select_merged p q b c v e in
      subst (IsFormed IsPeer bound) m.3
      (h.0, ap are_labels (labels_each b c m.0 m.2) ∙ h.1, each_formed IsPeer bound b c m.0 m.2 h.2 k.2)
  merge_formed IsPeer bound (Branch p b) (Branch q c) v e h k =
      let m = pick_merged p q b c v e in
      subst (IsFormed IsPeer bound) m.4 (h.0, picks_labels b c m.0 m.2 m.3 h.1 k.1, picks_formed IsPeer bound b c m.0 m.2 h.2 k.2)
  merge_formed IsPeer bound t u v e h k = absurd cc

  each_formed : (IsPeer : ℕ → Type 0) (bound : List (List ℕ)) (b c d : Branches) → merge_each b c ≡ Some d → AreFormed IsPeer bound b → AreFormed IsPeer bound c → AreFormed IsPeer bound d
  each_formed IsPeer bound NoMore NoMore d e h k = let i : NoMore ≡ d = cc in subst (AreFormed IsPeer bound) i tt
  each_formed IsPeer bound (More l t b) (More m u c) d e h k =
      let n = each_merged l m t u b c d e in
      subst (AreFormed IsPeer bound) n.5 (merge_formed IsPeer bound t u n.0 n.3 h.0 k.0, each_formed IsPeer bound b c n.1 n.4 h.1 k.1)
  each_formed IsPeer bound b c d e h k = absurd cc

  picks_formed : (IsPeer : ℕ → Type 0) (bound : List (List ℕ)) (b c d : Branches) → merge_picks b c ≡ Some d → AreFormed IsPeer bound b → AreFormed IsPeer bound c → AreFormed IsPeer bound d
  picks_formed IsPeer bound NoMore c d e h k = let i : c ≡ d = cc in subst (AreFormed IsPeer bound) i k
  picks_formed IsPeer bound (More l t b) c d e h k =
      let n = picks_merged l t b c d e in
      subst (AreFormed IsPeer bound) n.4
      (met_formed IsPeer bound l t c n.0 n.2 h.0 k (λ u f. merge_formed IsPeer bound t u n.0 f h.0), picks_formed IsPeer bound b (without l c) n.1 n.3 h.1 (without_formed IsPeer bound l c k))

all_formed : (IsPeer : ℕ → Type 0) (bound : List (List ℕ)) (b : Branches) → AreFormed IsPeer bound b → AllByRecursion (IsFormed IsPeer bound) (nexts b)
all_formed IsPeer bound NoMore h = tt
all_formed IsPeer bound (More l t b) h = (h.0, all_formed IsPeer bound b h.1)

-- what stands for branches is formed as they are
pub merged_formed : (IsPeer : ℕ → Type 0) (bound : List (List ℕ)) (merging : Merging) (b : Branches) (t : LocalType) → merged merging b ≡ Some t → AreFormed IsPeer bound b → IsFormed IsPeer bound t
merged_formed IsPeer bound merging b t e h = merged_keeps (IsFormed IsPeer bound) (merge_formed IsPeer bound) merging b t e (all_formed IsPeer bound b h)
