-- A role that has something to do comes to it on the way through the protocol, and finds there what its type says.
use Rattle.std.proofs.Common.{◌≡◌, ◌≢◌, ℕ, zero, suc, Bool, true, false, cond, List, [], ◌∷◌, drop, Option, None, Some, refl, sym, ap, ◌∙◌, subst}
use Rattle.std.specs.Prelude.{⊤, ◌==◌, if◌then◌else◌}
use Rattle.std.specs.List.{AllByRecursion}
use Rattle.std.specs.Str.{bytes_eq}
use Rattle.std.proofs.lemmas.Bool.{eqb-true, eqb-false, ne_eqb, eq-eqb}
use Rattle.mps_base.specs.Sorts.{fits}
use Rattle.mps_base.specs.declared.action.Message.{Message}
use Rattle.mps_base.specs.declared.action.Message.TheVariants.{Value as Plain, Label}
use Rattle.mps_base.specs.declared.value.Sort.{Sort}
use Rattle.mps_global.specs.Global as global
use Rattle.mps_global.specs.Global.{GlobalType}
use Rattle.mps_local.specs.Actions.{branch_at, nexts}
use Rattle.mps_local.specs.Local.{LocalType, Branches, End, Send, Recv, Select, Branch, More}
use Rattle.mps_local.specs.Loops.{ends_in}
use Rattle.mps_local.specs.Merged.{merged}
use Rattle.mps_local.specs.Projection.{place_of, with_message, with_choice, projection, projections}
use Rattle.mps_local.specs.Unfolding.{unfolded, replaced}
use Rattle.mps_local.specs.declared.merging.Merging.{Merging}
use Rattle.mps_local.proofs.Equal.{name_same}
use Rattle.mps_local.proofs.Filling.{Env, filled, filled_in, AreWhole, whole_filled}
use Rattle.mps_local.proofs.Formed.{AreFormed}
use Rattle.mps_local.proofs.Merged.{if_some, merged_ends}
use Rattle.mps_local.proofs.Silence.{more_parts}
use Rattle.mps_local.proofs.Unmerged.{map_some, and_then_some}
use Rattle.mps_fidelity.specs.Duality.{To, From, direction, after_message}
use Rattle.mps_fidelity.proofs.Covering.{Covers, AreCovered, covers_on, merged_covers}
use Rattle.mps_fidelity.proofs.Parts.{tree_at, label_matches, followed, led}
use Rattle.mps_fidelity.proofs.Path.{Around, Site, site, Kind, OfSort, OfLabel, IsKind, named, taken, fewer, on, item, IsQuiet}

-- what a covering type gives and takes
pub covered_way : (t u : LocalType) → AreCovered t u → direction t ≡ direction u
covered_way t u c = (c (suc zero)).way

pub covered_gives : (t u : LocalType) → AreCovered t u → (to : ℕ) (m : Message) (x : LocalType) → direction t ≡ To to → after_message t m ≡ Some x → (y : LocalType) × (after_message u m ≡ Some y) × AreCovered (unfolded x) (unfolded y)
covered_gives t u c to m x d e =
    let k = (c (suc zero)).gives to m x d e in (
      k.0,
      k.1,
      λ n.
          let l = (c (suc n)).gives to m x d e in
          let f = l.1 in let g = k.1 in let i : l.0 ≡ k.0 = cc in
          subst (λ (z : LocalType). Covers n (unfolded x) (unfolded z)) i l.2,
    )

pub covered_takes : (t u : LocalType) → AreCovered t u → (from : ℕ) (m : Message) (y : LocalType) → direction u ≡ From from → after_message u m ≡ Some y → (x : LocalType) × (after_message t m ≡ Some x) × AreCovered (unfolded x) (unfolded y)
covered_takes t u c from m y d e =
    let k = (c (suc zero)).takes from m y d e in (
      k.0,
      k.1,
      λ n.
          let l = (c (suc n)).takes from m y d e in
          let f = l.1 in let g = k.1 in let i : l.0 ≡ k.0 = cc in
          subst (λ (z : LocalType). Covers n (unfolded z) (unfolded y)) i l.2,
    )

-- the role will choose that label next, if it is one
abbrev pub Chooses : List (List ℕ) → Message → Type 0
Chooses ls (Plain v) = ⊤
Chooses ls (Label l) = (rest : List (List ℕ)) × (ls ≡ l ∷ rest)

-- what it will choose after that
abbrev pub after_choice : Message → List (List ℕ) → List (List ℕ)
after_choice (Plain v) ls = ls
after_choice (Label l) ls = drop 1 ls

-- a value chooses nothing
value_chooses : (sort : Sort) (m : Message) (ls : List (List ℕ)) → IsKind (OfSort sort) m → ls ≡ after_choice m ls
value_chooses sort (Plain v) ls h = refl
value_chooses sort (Label l) ls h = absurd h

label_chooses : (l : List ℕ) (m : Message) (ls : List (List ℕ)) → m ≡ Label l → drop 1 ls ≡ after_choice m ls
label_chooses l m ls e = ap (λ (n : Message). after_choice n ls) (sym e)

abbrev pub type_or_end : Option LocalType → LocalType
type_or_end None = End
type_or_end (Some t) = t

unfolded_end : unfolded End ≡ End
unfolding unfolded
unfolded_end = refl

-- what the taken branch is
pub taken_there : (ls : List (List ℕ)) (branches : global.Branches) → branches ≢ global.NoMore → tree_at (taken ls branches).0 branches ≡ Some (taken ls branches).1
taken_there ls global.NoMore h = absurd (h refl)
taken_there [] (global.More l next others) h = rw (name_same l) refl
taken_there (m ∷ ls) (global.More l next others) h = by_case (tree_at m (global.More l next others)) refl
  where
    by_case : (o : Option GlobalType) → tree_at m (global.More l next others) ≡ o → tree_at (named m o (global.More l next others)).0 (global.More l next others) ≡ Some (named m o (global.More l next others)).1
    by_case None e = rw (name_same l) refl
    by_case (Some x) e = e

-- what covers a type that begins with a value or with a label
send_gives : (t : LocalType) (to : ℕ) (sort : Sort) (v : LocalType) → AreCovered t (Send to sort v) → (m : Message) (x : LocalType) → after_message t m ≡ Some x → IsKind (OfSort sort) m × AreCovered (unfolded x) (unfolded v)
send_gives t to sort v c m x e = by_message m (covered_gives t (Send to sort v) c to m x (covered_way t (Send to sort v) c) e)
  where
    by_message : (n : Message) → ((y : LocalType) × (after_message (Send to sort v) n ≡ Some y) × AreCovered (unfolded x) (unfolded y)) → IsKind (OfSort sort) n × AreCovered (unfolded x) (unfolded v)
    by_message (Plain k) g =
        let i = if_some (fits k sort) (Some v) g.0 g.1 in let f = i.1 in let j : g.0 ≡ v = cc in
        (i.0, subst (λ (z : LocalType). AreCovered (unfolded x) (unfolded z)) j g.2)
    by_message (Label l) g = let f = g.1 in absurd cc

recv_takes : (t : LocalType) (from : ℕ) (sort : Sort) (v : LocalType) → AreCovered t (Recv from sort v) → (m : Message) → IsKind (OfSort sort) m → (x : LocalType) × (after_message t m ≡ Some x) × AreCovered (unfolded x) (unfolded v)
recv_takes t from sort v c (Plain k) h = covered_takes t (Recv from sort v) c from (Plain k) v refl (rw h refl)
recv_takes t from sort v c (Label l) h = absurd h

select_gives : (t : LocalType) (to : ℕ) (b : Branches) → AreCovered t (Select to b) → (m : Message) (x : LocalType) → after_message t m ≡ Some x → (l : List ℕ) × (y : LocalType) × (m ≡ Label l) × (branch_at l b ≡ Some y) × AreCovered (unfolded x) (unfolded y)
select_gives t to b c m x e = by_message m (covered_gives t (Select to b) c to m x (covered_way t (Select to b) c) e)
  where
    by_message : (n : Message) → ((y : LocalType) × (after_message (Select to b) n ≡ Some y) × AreCovered (unfolded x) (unfolded y)) → (l : List ℕ) × (y : LocalType) × (n ≡ Label l) × (branch_at l b ≡ Some y) × AreCovered (unfolded x) (unfolded y)
    by_message (Plain k) g = let f = g.1 in absurd cc
    by_message (Label l) g = (l, g.0, refl, g.1, g.2)

branch_takes : (t : LocalType) (from : ℕ) (b : Branches) → AreCovered t (Branch from b) → (l : List ℕ) (y : LocalType) → branch_at l b ≡ Some y → (x : LocalType) × (after_message t (Label l) ≡ Some x) × AreCovered (unfolded x) (unfolded y)
branch_takes t from b c l y e = covered_takes t (Branch from b) c from (Label l) y refl e

both_all : (P : LocalType → Type 0) (Q : List ℕ → LocalType → Type 0) (ts : List LocalType) → AllByRecursion P ts → ((z : List ℕ) → AllByRecursion (Q z) ts) → AllByRecursion (λ w. P w × ((z : List ℕ) → Q z w)) ts
both_all P Q [] h k = tt
both_all P Q (w ∷ ts) h k = ((h.0, λ z. (k z).0), both_all P Q ts h.1 (λ z. (k z).1))

-- each branch of a choice of others does what stands for all of them
each_branch_so : (P : LocalType → Type 0) (merging : Merging) (roles : List (List ℕ)) (p : ℕ) (branches : global.Branches) (ts : Branches) → projections merging roles p branches ≡ Some ts → AllByRecursion P (nexts ts) → (l : List ℕ) (next : GlobalType) → tree_at l branches ≡ Some next → (w : LocalType) × (projection merging roles p next ≡ Some w) × P w
each_branch_so P merging roles p global.NoMore ts e h l next f = absurd cc
each_branch_so P merging roles p (global.More m first others) ts e h l next f =
    let k = more_parts merging roles p m first others ts e in
    let j : AllByRecursion P (nexts (More m k.0 k.1)) = subst (λ (z : Branches). AllByRecursion P (nexts z)) k.4 h in
    by_test (bytes_eq m l) k.0 k.2 j.0 (each_branch_so P merging roles p others k.1 k.3 j.1 l next) f
  where
    by_test : (b : Bool) (w : LocalType) → projection merging roles p first ≡ Some w → P w → (tree_at l others ≡ Some next → (w : LocalType) × (projection merging roles p next ≡ Some w) × P w) → cond b (Some first) (tree_at l others) ≡ Some next → (w : LocalType) × (projection merging roles p next ≡ Some w) × P w
    by_test true w g i again f = let same : first ≡ next = cc in (w, subst (λ (z : GlobalType). projection merging roles p z ≡ Some w) same g, i)
    by_test false w g i again f = again f

chooses_label : (ls : List (List ℕ)) (l : List ℕ) (m : Message) → m ≡ Label l → Chooses ls m → (rest : List (List ℕ)) × (ls ≡ l ∷ rest)
chooses_label ls l m e h = subst (λ (n : Message). Chooses ls n) e h

taken_is : (ls : List (List ℕ)) (l : List ℕ) (rest : List (List ℕ)) (branches : global.Branches) (next : GlobalType) → ls ≡ l ∷ rest → tree_at l branches ≡ Some next → taken ls branches ≡ (l, next)
taken_is ls l rest branches next e f =
    subst (λ (z : List (List ℕ)). taken z branches ≡ (l, next)) (sym e) (ap (λ (o : Option GlobalType). named l o branches) f)

-- a message of that label
kind_is : (l : List ℕ) (m : Message) (after : Message → Option LocalType) (x : LocalType) → IsKind (OfLabel l) m → after (Label l) ≡ Some x → after m ≡ Some x
kind_is l (Plain v) after x h e = absurd h
kind_is l (Label k) after x h e = ap (λ (z : List ℕ). after (Label z)) h ∙ e

module _ (merging : Merging) (roles : List (List ℕ)) (p : ℕ) where
  -- what the variables of the loops around stand for in the role's types
  abbrev pub env_of : List Around → Env
  env_of [] z = End
  env_of (l ∷ ls) z =
      if bytes_eq z l.name then filled (env_of ls) (type_or_end (projection merging roles p (global.Rec l.name l.body)))
      else env_of ls z

  pub whole_env : (ls : List Around) → AreWhole (env_of ls)
  whole_env [] z x s = refl
  whole_env (l ∷ ls) z x s = by_test (bytes_eq z l.name) (whole_filled (env_of ls) (whole_env ls) (type_or_end (projection merging roles p (global.Rec l.name l.body))) x s) (whole_env ls z x s)
    where
      by_test : (b : Bool) → replaced x s (filled (env_of ls) (type_or_end (projection merging roles p (global.Rec l.name l.body)))) ≡ filled (env_of ls) (type_or_end (projection merging roles p (global.Rec l.name l.body))) → replaced x s (env_of ls z) ≡ env_of ls z → replaced x s (cond b (filled (env_of ls) (type_or_end (projection merging roles p (global.Rec l.name l.body)))) (env_of ls z)) ≡ cond b (filled (env_of ls) (type_or_end (projection merging roles p (global.Rec l.name l.body)))) (env_of ls z)
      by_test true e f = e
      by_test false e f = f

  -- the unfolded type does for the role where this is left
  pub record Goes (t : LocalType) (s : Site) : Type 0 where
    pub part : LocalType
    pub projected : projection merging roles p s.tree ≡ Some part
    pub covered : AreCovered t (unfolded (filled (env_of s.loops) part))

  -- the role's next message stands here, and is one that its type gives, or that it takes
  pub data Arrives (t : LocalType) (s : Site) : Type 0 where
    gives : (to : ℕ) (kind : Kind) → item roles s ≡ Some (record { from = p; to = to; kind = kind }) → direction t ≡ To to → ((m : Message) (x : LocalType) → after_message t m ≡ Some x → Chooses (s.chosen p) m → IsKind kind m × Goes (unfolded x) (on roles s) × ((on roles s).chosen p ≡ after_choice m (s.chosen p))) → Arrives t s
    takes : (from : ℕ) (kind : Kind) → p ≢ from → item roles s ≡ Some (record { from = from; to = p; kind = kind }) → direction t ≡ From from → (on roles s).chosen p ≡ s.chosen p → ((m : Message) → IsKind kind m → (x : LocalType) × (after_message t m ≡ Some x) × Goes (unfolded x) (on roles s)) → Arrives t s

  -- or the role has no part in what stands here
  pub data Stands (t : LocalType) (s : Site) (u : LocalType) : Type 0 where
    arrived : Arrives t s → Stands t s u
    passed : IsQuiet p (item roles s) → (g : Goes t (on roles s)) → ((z : List ℕ) → ends_in z g.part ≡ true → ends_in z u ≡ true) → Stands t s u

  -- the branch that is taken
  chose : (t : LocalType) (chosen : ℕ → List (List ℕ)) (loops : List Around) (branch : List ℕ × GlobalType) (l : List ℕ) (next : GlobalType) (w : LocalType) (m : Message) → branch ≡ (l, next) → m ≡ Label l → projection merging roles p next ≡ Some w → AreCovered t (unfolded (filled (env_of loops) w)) → IsKind (OfLabel branch.0) m × Goes t (site chosen loops branch.1)
  chose t chosen loops branch l next w m is label pr c =
      subst (λ (z : List ℕ × GlobalType). IsKind (OfLabel z.0) m × Goes t (site chosen loops z.1)) (sym is)
      (subst (λ (n : Message). IsKind (OfLabel l) n) (sym label) refl, record { part = w; projected = pr; covered = c })

  pub message_stands : (t : LocalType) (chosen : ℕ → List (List ℕ)) (loops : List Around) (sender receiver : List ℕ) (sort : Sort) (next : GlobalType) (u : LocalType) → projection merging roles p (global.Message sender receiver sort next) ≡ Some u → AreCovered t (unfolded (filled (env_of loops) u)) → Stands t (site chosen loops (global.Message sender receiver sort next)) u
  unfolding unfolded
  message_stands t chosen loops sender receiver sort next u e c =
      let from = place_of roles sender in let to = place_of roles receiver in
      let k = map_some (with_message p from to sort) (projection merging roles p next) u e in
      subst (Stands t (site chosen loops (global.Message sender receiver sort next))) k.2
      (by_tests (p == from) (p == to) refl refl k.0 k.1
      (subst (λ (z : LocalType). AreCovered t (unfolded (filled (env_of loops) z))) (sym k.2) c))
    where
      here : Site
      here = site chosen loops (global.Message sender receiver sort next)

      by_tests : (a b : Bool) → (p == place_of roles sender) ≡ a → (p == place_of roles receiver) ≡ b → (w : LocalType) → projection merging roles p next ≡ Some w → AreCovered t (unfolded (filled (env_of loops) (cond a (Send (place_of roles receiver) sort w) (cond b (Recv (place_of roles sender) sort w) w)))) → Stands t here (cond a (Send (place_of roles receiver) sort w) (cond b (Recv (place_of roles sender) sort w) w))
      by_tests true b f g w i c =
          let same : place_of roles sender ≡ p = sym (eqb-true p (place_of roles sender) f) in
          let v = filled (env_of loops) w in
          arrived (gives (place_of roles receiver) (OfSort sort)
          (λ j. Some (record { from = same j; to = place_of roles receiver; kind = OfSort sort }))
          (covered_way t (Send (place_of roles receiver) sort v) c)
          (λ m x h ch. let s = send_gives t (place_of roles receiver) sort v c m x h in (s.0, record { part = w; projected = i; covered = s.1 }, value_chooses sort m (chosen p) s.0)))
      by_tests false true f g w i c =
          let same : place_of roles receiver ≡ p = sym (eqb-true p (place_of roles receiver) g) in
          let v = filled (env_of loops) w in
          arrived (takes (place_of roles sender) (OfSort sort) (eqb-false p (place_of roles sender) f)
          (λ j. Some (record { from = place_of roles sender; to = same j; kind = OfSort sort }))
          (covered_way t (Recv (place_of roles sender) sort v) c) refl
          (λ m h. let s = recv_takes t (place_of roles sender) sort v c m h in (s.0, s.1, record { part = w; projected = i; covered = s.2 })))
      by_tests false false f g w i c =
          passed (eqb-false p (place_of roles sender) f, eqb-false p (place_of roles receiver) g) (record { part = w; projected = i; covered = c }) (λ z h. h)

  pub choice_stands : (IsPeer : ℕ → Type 0) (bound : List (List ℕ)) (t : LocalType) (chosen : ℕ → List (List ℕ)) (loops : List Around) (sender receiver : List ℕ) (branches : global.Branches) (u : LocalType) → branches ≢ global.NoMore → ((ts : Branches) → projections merging roles p branches ≡ Some ts → AreFormed IsPeer bound ts) → projection merging roles p (global.Choice sender receiver branches) ≡ Some u → AreCovered t (unfolded (filled (env_of loops) u)) → Stands t (site chosen loops (global.Choice sender receiver branches)) u
  unfolding unfolded
  choice_stands IsPeer bound t chosen loops sender receiver branches u some formed e c =
      let from = place_of roles sender in let to = place_of roles receiver in
      let k = and_then_some (with_choice merging p from to) (projections merging roles p branches) u e in
      by_tests (p == from) (p == to) refl refl k.0 k.1 u k.2 c
    where
      here : Site
      here = site chosen loops (global.Choice sender receiver branches)

      branch : List ℕ × GlobalType
      branch = taken (chosen (place_of roles sender)) branches

      by_tests : (a b : Bool) → (p == place_of roles sender) ≡ a → (p == place_of roles receiver) ≡ b → (ts : Branches) → projections merging roles p branches ≡ Some ts → (u : LocalType) → cond a (Some (Select (place_of roles receiver) ts)) (cond b (Some (Branch (place_of roles sender) ts)) (merged merging ts)) ≡ Some u → AreCovered t (unfolded (filled (env_of loops) u)) → Stands t here u
      by_tests true b f g ts i u h c =
          let same : place_of roles sender ≡ p = sym (eqb-true p (place_of roles sender) f) in
          let k : u ≡ Select (place_of roles receiver) ts = cc in
          let us = filled_in (env_of loops) ts in
          let d : AreCovered t (Select (place_of roles receiver) us) = subst (λ (z : LocalType). AreCovered t (unfolded (filled (env_of loops) z))) k c in
          arrived (gives (place_of roles receiver) (OfLabel branch.0)
          (λ j. Some (record { from = same j; to = place_of roles receiver; kind = OfLabel branch.0 }))
          (covered_way t (Select (place_of roles receiver) us) d)
          (λ m x r ch.
          let s = select_gives t (place_of roles receiver) us d m x r in
          let q = followed merging roles p (env_of loops) (branch_at s.0 us) (tree_at s.0 branches) s.1 (label_matches merging roles p (env_of loops) s.0 branches ts i) s.3 in
          let own = chooses_label (chosen p) s.0 m s.2 ch in
          let o = chose (unfolded x) (fewer (place_of roles sender) chosen) loops branch s.0 q.0 q.1 m
          (taken_is (chosen (place_of roles sender)) s.0 own.0 branches q.0 (ap chosen same ∙ own.1) q.2) s.2 q.3
          (subst (λ (z : LocalType). AreCovered (unfolded x) (unfolded z)) q.4 s.4) in
          (o.0, o.1, rw (eq-eqb (place_of roles sender) p same) (label_chooses s.0 m (chosen p) s.2))))
      by_tests false true f g ts i u h c =
          let same : place_of roles receiver ≡ p = sym (eqb-true p (place_of roles receiver) g) in
          let k : u ≡ Branch (place_of roles sender) ts = cc in
          let us = filled_in (env_of loops) ts in
          let d : AreCovered t (Branch (place_of roles sender) us) = subst (λ (z : LocalType). AreCovered t (unfolded (filled (env_of loops) z))) k c in
          let there = taken_there (chosen (place_of roles sender)) branches some in
          let q = led merging roles p (env_of loops) (branch_at branch.0 us) (tree_at branch.0 branches) branch.1 (label_matches merging roles p (env_of loops) branch.0 branches ts i) there in
          arrived (takes (place_of roles sender) (OfLabel branch.0) (eqb-false p (place_of roles sender) f)
          (λ j. Some (record { from = place_of roles sender; to = same j; kind = OfLabel branch.0 }))
          (covered_way t (Branch (place_of roles sender) us) d)
          (rw (ne_eqb (place_of roles sender) p (λ j. eqb-false p (place_of roles sender) f (sym j))) refl)
          (λ m r.
          let s = branch_takes t (place_of roles sender) us d branch.0 q.0 q.2 in
          (s.0, kind_is branch.0 m (after_message t) s.0 r s.1, record { part = q.1; projected = q.3; covered = subst (λ (z : LocalType). AreCovered (unfolded s.0) (unfolded z)) q.4 s.2 })))
      by_tests false false f g ts i u h c =
          let so = each_branch_so (λ w. AreCovered (unfolded (filled (env_of loops) u)) (unfolded (filled (env_of loops) w)) × ((z : List ℕ) → ends_in z u ≡ ends_in z w)) merging roles p branches ts i
          (both_all (λ w. AreCovered (unfolded (filled (env_of loops) u)) (unfolded (filled (env_of loops) w))) (λ z w. ends_in z u ≡ ends_in z w) (nexts ts) (merged_covers IsPeer bound (env_of loops) (whole_env loops) merging ts u h (formed ts i)) (λ z. merged_ends z merging ts u h))
          branch.0 branch.1 (taken_there (chosen (place_of roles sender)) branches some) in
          passed (eqb-false p (place_of roles sender) f, eqb-false p (place_of roles receiver) g)
          (record { part = so.0; projected = so.1; covered = λ n. covers_on n t (unfolded (filled (env_of loops) u)) (unfolded (filled (env_of loops) so.0)) (c n) (so.2.0 n) })
          (λ z j. so.2.1 z ∙ j)
