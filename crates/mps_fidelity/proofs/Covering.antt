-- A type that does where another one is expected: it gives no other messages, and takes all that the other takes. What
-- stands for the branches of a choice does for each of them.
use Rattle.std.proofs.Common.{arith, ◌≡◌, ℕ, zero, suc, Bool, true, false, cond, List, Option, Some, refl, sym, ap, ◌∙◌, subst}
use Rattle.std.specs.Prelude.{⊤}
use Rattle.std.specs.List.{AllByRecursion}
use Rattle.std.specs.Str.{bytes_eq}
use Rattle.mps_base.specs.Sorts.{fits}
use Rattle.mps_base.specs.declared.action.Message.{Message}
use Rattle.mps_base.specs.declared.action.Message.TheVariants.{Value as Plain, Label}
use Rattle.mps_base.specs.declared.value.Sort.{Sort}
use Rattle.mps_local.specs.Actions.{branch_at, nexts}
use Rattle.mps_local.specs.Local.{LocalType, Branches, End, Var, Rec, Send, Recv, Select, Branch, NoMore, More}
use Rattle.mps_local.specs.Loops.{ends_in}
use Rattle.mps_local.specs.Merged.{same, merge_by, merge_all, merged}
use Rattle.mps_local.specs.Unfolding.{unfolded}
use Rattle.mps_local.specs.declared.merging.Merging.{Merging}
use Rattle.mps_local.specs.declared.merging.Merging.TheVariants as kinds
use Rattle.mps_local.proofs.Equal.{name_same, name_is, name_turned, same_is}
use Rattle.mps_local.proofs.Filling.{Env, put, filled, filled_in, AreWhole, whole_filled, whole_put, loop_unfolds}
use Rattle.mps_local.proofs.Formed.{IsFormed, AreFormed, merge_formed}
use Rattle.mps_local.proofs.Over.{Over, OverEach, OverAll, merge_over}
use Rattle.mps_local.proofs.Merged.{if_some, merge_by_keeps}
use Rattle.mps_local.proofs.Unmerged.{and_then_some}
use Rattle.mps_fidelity.specs.Duality.{To, From, direction, after_message}

-- one unfolded type does for another: it begins with a message in the same direction, and what follows is so related
pub record CoversStep (R : LocalType → LocalType → Type 0) (t u : LocalType) : Type 0 where
  pub way : direction t ≡ direction u
  pub gives : (to : ℕ) (m : Message) (x : LocalType) → direction t ≡ To to → after_message t m ≡ Some x → (y : LocalType) × (after_message u m ≡ Some y) × R (unfolded x) (unfolded y)
  pub takes : (from : ℕ) (m : Message) (y : LocalType) → direction u ≡ From from → after_message u m ≡ Some y → (x : LocalType) × (after_message t m ≡ Some x) × R (unfolded x) (unfolded y)

-- and so on, for so many actions
abbrev pub Covers : ℕ → LocalType → LocalType → Type 0
Covers zero t u = ⊤
Covers (suc n) t u = CoversStep (Covers n) t u

-- however many
abbrev pub AreCovered : LocalType → LocalType → Type 0
AreCovered t u = (n : ℕ) → Covers n t u

pub covers_same : (n : ℕ) (t : LocalType) → Covers n t t
covers_same zero t = tt
covers_same (suc n) t = record {
  way = refl;
  gives = λ to m x d e. (x, e, covers_same n (unfolded x));
  takes = λ from m y d e. (y, e, covers_same n (unfolded y));
}

pub covers_on : (n : ℕ) (t u v : LocalType) → Covers n t u → Covers n u v → Covers n t v
covers_on zero t u v a b = tt
covers_on (suc n) t u v a b = record {
  way = a.way ∙ b.way;
  gives = λ to m x d e.
      let k = a.gives to m x d e in
      let l = b.gives to m k.0 (sym a.way ∙ d) k.1 in
      (l.0, l.1, covers_on n (unfolded x) (unfolded k.0) (unfolded l.0) k.2 l.2);
  takes = λ from m z d e.
      let k = b.takes from m z d e in
      let l = a.takes from m k.0 (b.way ∙ d) k.1 in
      (l.0, l.1, covers_on n (unfolded l.0) (unfolded k.0) (unfolded z) l.2 k.2);
}

covers_less : (n : ℕ) (t u : LocalType) → Covers (suc n) t u → Covers n t u
covers_less zero t u a = tt
covers_less (suc n) t u a = record {
  way = a.way;
  gives = λ to m x d e. let k = a.gives to m x d e in (k.0, k.1, covers_less n (unfolded x) (unfolded k.0) k.2);
  takes = λ from m y d e. let k = a.takes from m y d e in (k.0, k.1, covers_less n (unfolded k.0) (unfolded y) k.2);
}

-- two environments of whole types, of which the one does for the other so many actions deep
record AreCoveredEnvs (n : ℕ) (env out : Env) : Type 0 where
  first : AreWhole env
  second : AreWhole out
  each : (z : List ℕ) → Covers n (unfolded (env z)) (unfolded (out z))

-- a tree with more to pick does, in such environments
abbrev CoversFor : ℕ → Type 0
CoversFor n = (w t : LocalType) (env out : Env) → Over w t → AreCoveredEnvs n env out → Covers n (unfolded (filled env w)) (unfolded (filled out t))

-- and one action more, where what stands for the variables that come before any action does
abbrev CoversNext : ℕ → LocalType → LocalType → Type 0
CoversNext n w t =
    (env out : Env) → Over w t → AreCoveredEnvs n env out → ((z : List ℕ) → ends_in z w ≡ true → ends_in z t ≡ true → Covers (suc n) (unfolded (env z)) (unfolded (out z))) → CoversStep (Covers n) (unfolded (filled env w)) (unfolded (filled out t))

-- what begins with a value
send_covers : (n p : ℕ) (s : Sort) (w t : LocalType) → Covers n (unfolded w) (unfolded t) → CoversStep (Covers n) (Send p s w) (Send p s t)
send_covers n p s w t h = record { way = refl; gives = λ to m x d e. give m x e; takes = λ from m y d e. absurd cc }
  where
    give : (m : Message) (x : LocalType) → after_message (Send p s w) m ≡ Some x → (y : LocalType) × (after_message (Send p s t) m ≡ Some y) × Covers n (unfolded x) (unfolded y)
    give (Plain v) x e =
        let k = if_some (fits v s) (Some w) x e in let f = k.1 in let j : w ≡ x = cc in
        (t, rw k.0 refl, subst (λ (z : LocalType). Covers n (unfolded z) (unfolded t)) j h)
    give (Label l) x e = absurd cc

recv_covers : (n p : ℕ) (s : Sort) (w t : LocalType) → Covers n (unfolded w) (unfolded t) → CoversStep (Covers n) (Recv p s w) (Recv p s t)
recv_covers n p s w t h = record { way = refl; gives = λ to m x d e. absurd cc; takes = λ from m y d e. take m y e }
  where
    take : (m : Message) (y : LocalType) → after_message (Recv p s t) m ≡ Some y → (x : LocalType) × (after_message (Recv p s w) m ≡ Some x) × Covers n (unfolded x) (unfolded y)
    take (Plain v) y e =
        let k = if_some (fits v s) (Some t) y e in let f = k.1 in let j : t ≡ y = cc in
        (w, rw k.0 refl, subst (λ (z : LocalType). Covers n (unfolded w) (unfolded z)) j h)
    take (Label l) y e = absurd cc

-- what begins with a label
abbrev Leads : ℕ → Option LocalType → Option LocalType → Type 0
Leads n from to = (x : LocalType) → from ≡ Some x → (y : LocalType) × (to ≡ Some y) × Covers n (unfolded x) (unfolded y)

abbrev LeadsBack : ℕ → Option LocalType → Option LocalType → Type 0
LeadsBack n from to = (y : LocalType) → to ≡ Some y → (x : LocalType) × (from ≡ Some x) × Covers n (unfolded x) (unfolded y)

select_covers : (n p : ℕ) (d b : Branches) → ((l : List ℕ) → Leads n (branch_at l d) (branch_at l b)) → CoversStep (Covers n) (Select p d) (Select p b)
select_covers n p d b h = record { way = refl; gives = λ to m x e f. give m x f; takes = λ from m y e f. absurd cc }
  where
    give : (m : Message) (x : LocalType) → after_message (Select p d) m ≡ Some x → (y : LocalType) × (after_message (Select p b) m ≡ Some y) × Covers n (unfolded x) (unfolded y)
    give (Plain v) x e = absurd cc
    give (Label l) x e = h l x e

branch_covers : (n p : ℕ) (d b : Branches) → ((l : List ℕ) → LeadsBack n (branch_at l d) (branch_at l b)) → CoversStep (Covers n) (Branch p d) (Branch p b)
branch_covers n p d b h = record { way = refl; gives = λ to m x e f. absurd cc; takes = λ from m y e f. take m y f }
  where
    take : (m : Message) (y : LocalType) → after_message (Branch p b) m ≡ Some y → (x : LocalType) × (after_message (Branch p d) m ≡ Some x) × Covers n (unfolded x) (unfolded y)
    take (Plain v) y e = absurd cc
    take (Label l) y e = h l y e

module _ (n : ℕ) (again : CoversFor n) (env out : Env) (envs : AreCoveredEnvs n env out) where
  each_leads : (d b : Branches) → OverEach d b → (l : List ℕ) → Leads n (branch_at l (filled_in env d)) (branch_at l (filled_in out b))
  each_leads NoMore NoMore h l = λ x e. absurd cc
  each_leads (More m w d) (More k t b) h l = by_test (bytes_eq m l) refl (each_leads d b h.2 l)
    where
      by_test : (c : Bool) → bytes_eq m l ≡ c → Leads n (branch_at l (filled_in env d)) (branch_at l (filled_in out b)) → Leads n (cond c (Some (filled env w)) (branch_at l (filled_in env d))) (cond (bytes_eq k l) (Some (filled out t)) (branch_at l (filled_in out b)))
      by_test true e more x f =
          let i : filled env w ≡ x = cc in
          (filled out t, rw (ap (λ (z : List ℕ). bytes_eq z l) (sym h.0) ∙ e) refl, subst (λ (z : LocalType). Covers n (unfolded z) (unfolded (filled out t))) i (again w t env out h.1 envs))
      by_test false e more x f = let g = more x f in (g.0, rw (ap (λ (z : List ℕ). bytes_eq z l) (sym h.0) ∙ e) g.1, g.2)
  each_leads d b h l = absurd h

  found_filled : (l : List ℕ) (d : Branches) (w : LocalType) → branch_at l d ≡ Some w → branch_at l (filled_in env d) ≡ Some (filled env w)
  found_filled l NoMore w e = absurd cc
  found_filled l (More m v d) w e = by_test (bytes_eq m l) e (found_filled l d w)
    where
      by_test : (c : Bool) → cond c (Some v) (branch_at l d) ≡ Some w → (branch_at l d ≡ Some w → branch_at l (filled_in env d) ≡ Some (filled env w)) → cond c (Some (filled env v)) (branch_at l (filled_in env d)) ≡ Some (filled env w)
      by_test true f more = let i : v ≡ w = cc in ap (λ (z : LocalType). Some (filled env z)) i
      by_test false f more = more f

  all_leads : (d b : Branches) → OverAll d b → (l : List ℕ) → LeadsBack n (branch_at l (filled_in env d)) (branch_at l (filled_in out b))
  all_leads d NoMore h l = λ y e. absurd cc
  all_leads d (More m t b) h l = by_test (bytes_eq m l) refl (all_leads d b h.1 l)
    where
      by_test : (c : Bool) → bytes_eq m l ≡ c → LeadsBack n (branch_at l (filled_in env d)) (branch_at l (filled_in out b)) → LeadsBack n (branch_at l (filled_in env d)) (cond c (Some (filled out t)) (branch_at l (filled_in out b)))
      by_test true e more y f =
          let i : filled out t ≡ y = cc in
          let g = found_filled m d h.0.0 h.0.1 in (
            filled env h.0.0,
            subst (λ (z : List ℕ). branch_at z (filled_in env d) ≡ Some (filled env h.0.0)) (name_is m l e) g,
            subst (λ (z : LocalType). Covers n (unfolded (filled env h.0.0)) (unfolded z)) i (again h.0.0 t env out h.0.2 envs),
          )
      by_test false e more y f = more y f

both_put : (b : Bool) (F : LocalType → LocalType → Type 0) (t t' s s' : LocalType) → (b ≡ true → F t t') → (b ≡ false → F s s') → F (cond b t s) (cond b t' s')
both_put b F t t' s s' f g = grind arith

ends_over : (z : List ℕ) (w t : LocalType) → Over w t → ends_in z w ≡ ends_in z t
ends_over z End End h = refl
ends_over z (Var x) (Var y) h = ap (λ (k : List ℕ). bytes_eq k z) h
ends_over z (Rec x w) (Rec y t) h =
    let k = ends_over z w t h.3 in
    (λ i. cond (bytes_eq (h.0 i) z) false (k i))
ends_over z (Send p s w) (Send q r t) h = refl
ends_over z (Recv p s w) (Recv q r t) h = refl
ends_over z (Select p d) (Select q b) h = refl
ends_over z (Branch p d) (Branch q b) h = refl
ends_over z w t h = absurd h

-- a loop does where its body does, with the loops in the place of its variable
loop_covers : (n : ℕ) (name : List ℕ) (w t : LocalType) (env out : Env) → CoversFor n → CoversNext n w t → Over (Rec name w) (Rec name t) → AreCoveredEnvs n env out → ((z : List ℕ) → ends_in z (Rec name w) ≡ true → ends_in z (Rec name t) ≡ true → Covers (suc n) (unfolded (env z)) (unfolded (out z))) → CoversStep (Covers n) (unfolded (filled env (Rec name w))) (unfolded (filled out (Rec name t)))
loop_covers n name w t env out again inner h envs here =
    let x = filled env (Rec name w) in
    let y = filled out (Rec name t) in
    let inside : AreCoveredEnvs n (put name x env) (put name y out) = record {
      first = whole_put name x env (whole_filled env envs.first (Rec name w)) envs.first;
      second = whole_put name y out (whole_filled out envs.second (Rec name t)) envs.second;
      each = λ z. both_put (bytes_eq z name) (λ a b. Covers n (unfolded a) (unfolded b)) x y (env z) (out z) (λ k. again (Rec name w) (Rec name t) env out h envs) (λ k. envs.each z);
    } in
    let start = inner (put name x env) (put name y out) h.3 inside
    (λ z i j. both_put (bytes_eq z name) (λ a b. Covers (suc n) (unfolded a) (unfolded b)) x y (env z) (out z)
    (λ k. absurd (let bad : ends_in name w ≡ true = subst (λ (l : List ℕ). ends_in l w ≡ true) (name_is z name k) i in let good = h.1 in cc))
    (λ k. let l : bytes_eq name z ≡ false = name_turned name z ∙ k in here z (rw l i) (rw l j))) in
    subst (λ (a : LocalType). CoversStep (Covers n) a (unfolded y)) (sym (loop_unfolds name w env envs.first h.1))
    (subst (λ (b : LocalType). CoversStep (Covers n) (unfolded (filled (put name x env) w)) b) (sym (loop_unfolds name t out envs.second h.2)) start)

covers_next : (n : ℕ) → CoversFor n → (w t : LocalType) → CoversNext n w t
unfolding unfolded
covers_next n again End End env out h envs here = record { way = refl; gives = λ to m x d e. absurd cc; takes = λ from m y d e. absurd cc }
covers_next n again (Var x) (Var y) env out h envs here =
    subst (λ (z : List ℕ). CoversStep (Covers n) (unfolded (env x)) (unfolded (out z))) h
    (here x (name_same x) (ap (λ (z : List ℕ). bytes_eq z x) (sym h) ∙ name_same x))
covers_next n again (Rec x w) (Rec y t) env out h envs here =
    let same = λ (z : List ℕ). CoversNext n (Rec x w) (Rec z t) in
    subst same h.0
    (λ env out h envs here. loop_covers n x w t env out again (covers_next n again w t) h envs here)
    env out h envs here
covers_next n again (Send p s w) (Send q r t) env out h envs here =
    subst (λ (z : ℕ). CoversStep (Covers n) (Send p s (filled env w)) (Send z r (filled out t))) h.0
    (subst (λ (z : Sort). CoversStep (Covers n) (Send p s (filled env w)) (Send p z (filled out t))) h.1
    (send_covers n p s (filled env w) (filled out t) (again w t env out h.2 envs)))
covers_next n again (Recv p s w) (Recv q r t) env out h envs here =
    subst (λ (z : ℕ). CoversStep (Covers n) (Recv p s (filled env w)) (Recv z r (filled out t))) h.0
    (subst (λ (z : Sort). CoversStep (Covers n) (Recv p s (filled env w)) (Recv p z (filled out t))) h.1
    (recv_covers n p s (filled env w) (filled out t) (again w t env out h.2 envs)))
covers_next n again (Select p d) (Select q b) env out h envs here =
    subst (λ (z : ℕ). CoversStep (Covers n) (Select p (filled_in env d)) (Select z (filled_in out b))) h.0
    (select_covers n p (filled_in env d) (filled_in out b) (each_leads n again env out envs d b h.1))
covers_next n again (Branch p d) (Branch q b) env out h envs here =
    subst (λ (z : ℕ). CoversStep (Covers n) (Branch p (filled_in env d)) (Branch z (filled_in out b))) h.0
    (branch_covers n p (filled_in env d) (filled_in out b) (all_leads n again env out envs d b h.1))
covers_next n again w t env out h envs here = absurd h

covers_for : (n : ℕ) → CoversFor n
covers_for zero w t env out h envs = tt
covers_for (suc n) w t env out h envs =
    covers_next n (covers_for n) w t env out h
    (record { first = envs.first; second = envs.second; each = λ z. covers_less n (unfolded (env z)) (unfolded (out z)) (envs.each z) })
    (λ z i j. envs.each z)

-- so it does in one environment
over_covers : (env : Env) → AreWhole env → (w t : LocalType) → Over w t → AreCovered (unfolded (filled env w)) (unfolded (filled env t))
over_covers env whole w t h n =
    covers_for n w t env env h (record { first = whole; second = whole; each = λ z. covers_same n (unfolded (env z)) })

-- a type that stands for branches does for each
module _ (IsPeer : ℕ → Type 0) (bound : List (List ℕ)) (env : Env) (whole : AreWhole env) where
  abbrev Does : LocalType → LocalType → Type 0
  Does w t = AreCovered (unfolded (filled env w)) (unfolded (filled env t))

  by_covers : (merging : Merging) (t u v : LocalType) → merge_by merging t u ≡ Some v → IsFormed IsPeer bound t → IsFormed IsPeer bound u → Does v t × Does v u
  by_covers kinds.Plain t u v e h k =
      let i = if_some (same t u) (Some t) v e in let f = i.1 in let j : t ≡ v = cc in
      subst (λ (z : LocalType). Does z t × Does z u) j
      ((λ n. covers_same n (unfolded (filled env t))), (subst (λ (z : LocalType). Does t z) (same_is t u i.0) (λ n. covers_same n (unfolded (filled env t)))))
  by_covers kinds.Full t u v e h k =
      let o = merge_over IsPeer bound t u v e h k in
      (over_covers env whole v t o.0, over_covers env whole v u o.1)

  all_covers : (merging : Merging) (first v : LocalType) (b : Branches) → merge_all merging first b ≡ Some v → IsFormed IsPeer bound first → AreFormed IsPeer bound b → Does v first × AllByRecursion (Does v) (nexts b)
  all_covers merging first v NoMore e h hs =
      let j : first ≡ v = cc in (subst (λ (z : LocalType). Does z first) j (λ n. covers_same n (unfolded (filled env first))), tt)
  all_covers merging first v (More l u others) e h hs =
      let k = and_then_some (λ both. merge_all merging both others) (merge_by merging first u) v e in
      let two = by_covers merging first u k.0 k.1 h hs.0 in
      let formed = merge_by_keeps (IsFormed IsPeer bound) (merge_formed IsPeer bound) merging first u k.0 k.1 h hs.0 in
      let r = all_covers merging k.0 v others k.2 formed hs.1 in (
        (λ n. covers_on n (unfolded (filled env v)) (unfolded (filled env k.0)) (unfolded (filled env first)) (r.0 n) (two.0 n)),
        ((λ n. covers_on n (unfolded (filled env v)) (unfolded (filled env k.0)) (unfolded (filled env u)) (r.0 n) (two.1 n)), r.1),
      )

  pub merged_covers : (merging : Merging) (b : Branches) (v : LocalType) → merged merging b ≡ Some v → AreFormed IsPeer bound b → AllByRecursion (Does v) (nexts b)
  merged_covers merging NoMore v e h = tt
  merged_covers merging (More l u others) v e h =
      let r = all_covers merging u v others e h.0 h.1 in (r.0, r.1)
