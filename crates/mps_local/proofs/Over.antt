-- A type that is another one with more to pick: what is merged is so of each of the types that it stands for.
use Rattle.std.proofs.Common.{◌≡◌, ℕ, Bool, true, false, cond, List, ◌∷◌, Some, refl, sym, ◌∙◌, subst}
use Rattle.std.specs.Prelude.{⊤}
use Rattle.std.specs.Str.{bytes_eq}
use Rattle.mps_global.specs.Faults.{is_among, has_double}
use Rattle.mps_local.specs.Actions.{branch_at, labels}
use Rattle.mps_local.specs.Local.{LocalType, Branches, End, Var, Rec, Send, Recv, Select, Branch, NoMore, More}
use Rattle.mps_local.specs.Loops.{ends_in}
use Rattle.mps_local.specs.Merged.{without, merge, merge_each, merge_picks}
use Rattle.mps_local.proofs.Equal.{name_same, name_is, name_turned}
use Rattle.mps_local.proofs.Formed.{IsFormed, AreFormed, label_parts, without_distinct, without_formed, branch_formed, or_false}
use Rattle.mps_local.proofs.Merged.{merge_ends, rec_merged, send_merged, recv_merged, select_merged, pick_merged, each_merged, picks_merged, Met, alone, both, if_some}

abbrev mutual
  -- the one tree is the other one with more to pick; its loops are guarded
  pub Over : LocalType → LocalType → Type 0
  Over End End = ⊤
  Over (Var x) (Var y) = x ≡ y
  Over (Rec x w) (Rec y t) = (x ≡ y) × (ends_in x w ≡ false) × (ends_in y t ≡ false) × Over w t
  Over (Send p s w) (Send q r t) = (p ≡ q) × (s ≡ r) × Over w t
  Over (Recv p s w) (Recv q r t) = (p ≡ q) × (s ≡ r) × Over w t
  Over (Select p d) (Select q b) = (p ≡ q) × OverEach d b
  Over (Branch p d) (Branch q b) = (p ≡ q) × OverAll d b
  Over w t = ⊥

  pub OverEach : Branches → Branches → Type 0
  OverEach NoMore NoMore = ⊤
  OverEach (More l w d) (More m t b) = (l ≡ m) × Over w t × OverEach d b
  OverEach d b = ⊥

  -- what the branches have after each label of the other ones is so of what these have
  pub OverAll : Branches → Branches → Type 0
  OverAll d NoMore = ⊤
  OverAll d (More l t b) = ((w : LocalType) × (branch_at l d ≡ Some w) × Over w t) × OverAll d b

at_other : (l m : List ℕ) (w v : LocalType) (d : Branches) → bytes_eq l m ≡ false → branch_at m d ≡ Some v → branch_at m (More l w d) ≡ Some v
at_other l m w v d e f = rw e f

at_same : (l m : List ℕ) (w : LocalType) (d : Branches) → bytes_eq m l ≡ true → branch_at m (More l w d) ≡ Some w
at_same l m w d e = rw (name_turned l m ∙ e) refl

-- a branch before them changes nothing, where its label is none of these
over_more : (l : List ℕ) (w : LocalType) (d b : Branches) → is_among (labels b) l ≡ false → OverAll d b → OverAll (More l w d) b
over_more l w d NoMore h a = tt
over_more l w d (More m t b) h a =
    let n = or_false (bytes_eq l m) (is_among (labels b) l) h in
    ((a.0.0, at_other l m w a.0.0 d n.0 a.0.1, a.0.2), over_more l w d b n.1 a.1)

mutual
  pub over_same : (IsPeer : ℕ → Type 0) (bound : List (List ℕ)) (t : LocalType) → IsFormed IsPeer bound t → Over t t
  over_same IsPeer bound End h = tt
  over_same IsPeer bound (Var x) h = refl
  over_same IsPeer bound (Rec x t) h = (refl, h.1, h.1, over_same IsPeer (x ∷ bound) t h.2)
  over_same IsPeer bound (Send p s t) h = (refl, refl, over_same IsPeer bound t h.1)
  over_same IsPeer bound (Recv p s t) h = (refl, refl, over_same IsPeer bound t h.1)
  over_same IsPeer bound (Select p b) h = (refl, each_same IsPeer bound b h.2)
  over_same IsPeer bound (Branch p b) h = (refl, all_same IsPeer bound b (label_parts (labels b) h.1).0 h.2)

  each_same : (IsPeer : ℕ → Type 0) (bound : List (List ℕ)) (b : Branches) → AreFormed IsPeer bound b → OverEach b b
  each_same IsPeer bound NoMore h = tt
  each_same IsPeer bound (More l t b) h = (refl, over_same IsPeer bound t h.0, each_same IsPeer bound b h.1)

  all_same : (IsPeer : ℕ → Type 0) (bound : List (List ℕ)) (b : Branches) → has_double (labels b) ≡ false → AreFormed IsPeer bound b → OverAll b b
  all_same IsPeer bound NoMore one h = tt
  all_same IsPeer bound (More l t b) one h =
      let n = or_false (is_among (labels b) l) (has_double (labels b)) one in
      ((t, at_same l l t b (name_same l), over_same IsPeer bound t h.0), over_more l t b b n.0 (all_same IsPeer bound b n.1 h.1))

-- with the branch that was taken off back in front
over_whole : (l : List ℕ) (w : LocalType) (d c : Branches) → has_double (labels c) ≡ false → ((u : LocalType) → branch_at l c ≡ Some u → Over w u) → OverAll d (without l c) → OverAll (More l w d) c
over_whole l w d NoMore one here a = tt
over_whole l w d (More m u c) one here a =
    by_test (bytes_eq m l) refl a here (λ k f. over_whole l w d c (or_false (is_among (labels c) m) (has_double (labels c)) one).1 f k)
  where
    by_test : (e : Bool) → bytes_eq m l ≡ e → OverAll d (cond e c (More m u (without l c))) → ((v : LocalType) → cond e (Some u) (branch_at l c) ≡ Some v → Over w v) → (OverAll d (without l c) → ((v : LocalType) → branch_at l c ≡ Some v → Over w v) → OverAll (More l w d) c) → OverAll (More l w d) (More m u c)
    by_test true e k f again =
        let out : is_among (labels c) l ≡ false = subst (λ (z : List ℕ). is_among (labels c) z ≡ false) (name_is m l e) (or_false (is_among (labels c) m) (has_double (labels c)) one).0 in
        ((w, at_same l m w d e, f u refl), over_more l w d c out k)
    by_test false e k f again =
        ((k.0.0, at_other l m w k.0.0 d (name_turned l m ∙ e) k.0.1, k.0.2), again k.1 f)

-- what follows a label of both, or of the first alone
met_over : (l : List ℕ) (t : LocalType) (c : Branches) (w : LocalType) → Met t (branch_at l c) w → Over t t → ((u : LocalType) → branch_at l c ≡ Some u → merge t u ≡ Some w → Over w t × Over w u) → Over w t × ((u : LocalType) → branch_at l c ≡ Some u → Over w u)
met_over l t c w (alone e f) s again = (subst (λ (z : LocalType). Over z t) f s, λ u g. absurd cc)
met_over l t c w (both u e f) s again =
    let a = again u e f in
    (a.0, λ v g. let i : u ≡ v = cc in subst (Over w) i a.1)

mutual
  -- what is merged of two types is over both
  pub merge_over : (IsPeer : ℕ → Type 0) (bound : List (List ℕ)) (t u v : LocalType) → merge t u ≡ Some v → IsFormed IsPeer bound t → IsFormed IsPeer bound u → Over v t × Over v u
  merge_over IsPeer bound End End v e h k = let i : End ≡ v = cc in subst (λ (z : LocalType). Over z End × Over z End) i (tt, tt)
  merge_over IsPeer bound (Var x) (Var y) v e h k =
      let i = if_some (bytes_eq x y) (Some (Var x)) v e in let f = i.1 in let j : Var x ≡ v = cc in
      subst (λ (z : LocalType). Over z (Var x) × Over z (Var y)) j (refl, name_is x y i.0)
  merge_over IsPeer bound (Rec x t) (Rec y u) v e h k =
      let m = rec_merged x y t u v e in
      let a = merge_over IsPeer (x ∷ bound) t u m.0 m.2 h.2 (subst (λ (z : List ℕ). IsFormed IsPeer (z ∷ bound) u) (sym m.1) k.2) in
      let g = (merge_ends x t u m.0 m.2).0 ∙ h.1 in
      subst (λ (z : LocalType). Over z (Rec x t) × Over z (Rec y u)) m.3 ((refl, g, h.1, a.0), (m.1, g, k.1, a.1))
  merge_over IsPeer bound (Send p s t) (Send q r u) v e h k =
      let m = send_merged p q s r t u v e in
      let a = merge_over IsPeer bound t u m.0 m.3 h.1 k.1 in
      subst (λ (z : LocalType). Over z (Send p s t) × Over z (Send q r u)) m.4 ((refl, refl, a.0), (m.1, m.2, a.1))
  merge_over IsPeer bound (Recv p s t) (Recv q r u) v e h k =
      let m = recv_merged p q s r t u v e in
      let a = merge_over IsPeer bound t u m.0 m.3 h.1 k.1 in
      subst (λ (z : LocalType). Over z (Recv p s t) × Over z (Recv q r u)) m.4 ((refl, refl, a.0), (m.1, m.2, a.1))
  merge_over IsPeer bound (Select p b) (Select q c) v e h k =
      let m = select_merged p q b c v e in
      let a = each_over IsPeer bound b c m.0 m.2 h.2 k.2 in
      subst (λ (z : LocalType). Over z (Select p b) × Over z (Select q c)) m.3 ((refl, a.0), (m.1, a.1))
  merge_over IsPeer bound (Branch p b) (Branch q c) v e h k =
      let m = pick_merged p q b c v e in
      let a = picks_over IsPeer bound b c m.0 m.2 (label_parts (labels b) h.1).0 (label_parts (labels c) k.1).0 h.2 k.2 in
      subst (λ (z : LocalType). Over z (Branch p b) × Over z (Branch q c)) m.4 ((refl, a.0), (m.1, a.1))
  merge_over IsPeer bound t u v e h k = absurd cc

  each_over : (IsPeer : ℕ → Type 0) (bound : List (List ℕ)) (b c d : Branches) → merge_each b c ≡ Some d → AreFormed IsPeer bound b → AreFormed IsPeer bound c → OverEach d b × OverEach d c
  each_over IsPeer bound NoMore NoMore d e h k = let i : NoMore ≡ d = cc in subst (λ (z : Branches). OverEach z NoMore × OverEach z NoMore) i (tt, tt)
  each_over IsPeer bound (More l t b) (More m u c) d e h k =
      let n = each_merged l m t u b c d e in
      let x = merge_over IsPeer bound t u n.0 n.3 h.0 k.0 in
      let y = each_over IsPeer bound b c n.1 n.4 h.1 k.1 in
      subst (λ (z : Branches). OverEach z (More l t b) × OverEach z (More m u c)) n.5 ((refl, x.0, y.0), (n.2, x.1, y.1))
  each_over IsPeer bound b c d e h k = absurd cc

  picks_over : (IsPeer : ℕ → Type 0) (bound : List (List ℕ)) (b c d : Branches) → merge_picks b c ≡ Some d → has_double (labels b) ≡ false → has_double (labels c) ≡ false → AreFormed IsPeer bound b → AreFormed IsPeer bound c → OverAll d b × OverAll d c
  picks_over IsPeer bound NoMore c d e one two h k =
      let i : c ≡ d = cc in subst (λ (z : Branches). OverAll z NoMore × OverAll z c) i (tt, all_same IsPeer bound c two k)
  picks_over IsPeer bound (More l t b) c d e one two h k =
      let n = picks_merged l t b c d e in
      let o = or_false (is_among (labels b) l) (has_double (labels b)) one in
      let y = picks_over IsPeer bound b (without l c) n.1 n.3 o.1 (without_distinct l c two) h.1 (without_formed IsPeer bound l c k) in
      let x = met_over l t c n.0 n.2 (over_same IsPeer bound t h.0) (λ u g f. merge_over IsPeer bound t u n.0 f h.0 (branch_formed IsPeer bound l c u g k)) in
      subst (λ (z : Branches). OverAll z (More l t b) × OverAll z c) n.4
      (((n.0, at_same l l n.0 n.1 (name_same l), x.0), over_more l n.0 n.1 b o.0 y.0), over_whole l n.0 n.1 c two x.1 y.1)
