-- The projections of one tree on two roles are dual.
use Rattle.std.proofs.Common.{arith, ◌≡◌, ◌≢◌, ℕ, zero, suc, Bool, true, false, List, [], cond, Some, refl, sym, ap, ◌∙◌, subst}
use Rattle.std.specs.Str.{bytes_eq}
use Rattle.mps_global.specs.Global as global
use Rattle.mps_global.specs.Global.{GlobalType}
use Rattle.mps_local.specs.Local.{LocalType, End, Var, Rec}
use Rattle.mps_local.specs.Loops.{ends_in, is_closed}
use Rattle.mps_local.specs.Projection.{place_of, projection}
use Rattle.mps_local.specs.Unfolding.{unfolded}
use Rattle.mps_local.specs.declared.merging.Merging.TheVariants.{Plain}
use Rattle.mps_local.proofs.Equal.{name_same, name_is, name_turned}
use Rattle.mps_local.proofs.Filling.{Env, put, filled, AreWhole, whole_filled, whole_put, loop_unfolds, filled_same}
use Rattle.mps_local.proofs.Silence.{RecParts, idle, busy, rec_parts, busy_guarded}
use Rattle.mps_fidelity.specs.Duality.{Direction, To, From, direction, after_message, IsElsewhere, DualStep, first_elsewhere, second_elsewhere, first_sends, second_sends, Dual, AreDual}
use Rattle.mps_fidelity.proofs.Parts.{IsNext, next_after, tree_after, GoesAs, Part, as_sender, as_receiver, as_neither, followed, led, message_part, choice_part}

step_map : (p q : ℕ) (R S : LocalType → LocalType → Type 0) → ((t u : LocalType) → R t u → S t u) → (t u : LocalType) → DualStep p q R t u → DualStep p q S t u
step_map p q R S f t u (first_elsewhere a g) = first_elsewhere a (λ m x e. f (unfolded x) u (g m x e))
step_map p q R S f t u (second_elsewhere a g) = second_elsewhere a (λ m y e. f t (unfolded y) (g m y e))
step_map p q R S f t u (first_sends a b g) = first_sends a b (λ m x e. let k = g m x e in (k.0, k.1, f (unfolded x) (unfolded k.0) k.2))
step_map p q R S f t u (second_sends a b g) = second_sends a b (λ m y e. let k = g m y e in (k.0, k.1, f (unfolded k.0) (unfolded y) k.2))

dual_less : (n p q : ℕ) (t u : LocalType) → Dual (suc n) p q t u → Dual n p q t u
dual_less zero p q t u d = tt
dual_less (suc n) p q t u d = step_map p q (Dual (suc n) p q) (Dual n p q) (λ x y. dual_less n p q x y) t u d

elsewhere_to : (t : LocalType) (role to : ℕ) → direction t ≡ To to → role ≢ to → IsElsewhere t role
elsewhere_to t role to e ne = record { not_to = λ k. ne cc; not_from = λ k. cc }

elsewhere_from : (t : LocalType) (role from : ℕ) → direction t ≡ From from → role ≢ from → IsElsewhere t role
elsewhere_from t role from e ne = record { not_to = λ k. cc; not_from = λ k. ne cc }

-- At a message or a choice of the tree, where t and u are the projections on p and q, and those of what may follow are dual.
module _ (roles : List (List ℕ)) (p q n : ℕ) (tree : GlobalType) (t u : LocalType) (env out : Env) (again : (next : GlobalType) (x y : LocalType) → IsNext tree next → projection Plain roles p next ≡ Some x → projection Plain roles q next ≡ Some y → Dual n p q (unfolded (filled env x)) (unfolded (filled out y))) where
  abbrev GoOn : Type 0
  GoOn = DualStep p q (Dual n p q) (unfolded (filled env t)) (unfolded (filled out u))

  -- p has to do with a third role
  first_goes : (d : Direction) → GoesAs Plain roles p env d tree (unfolded (filled env t)) → IsElsewhere (unfolded (filled env t)) q → ((next : GlobalType) → IsNext tree next → projection Plain roles q next ≡ Some u) → GoOn
  first_goes d g off others = grind (arith, filled env t, filled out u)

  -- q has
  second_goes : (d : Direction) → GoesAs Plain roles q out d tree (unfolded (filled out u)) → IsElsewhere (unfolded (filled out u)) p → ((next : GlobalType) → IsNext tree next → projection Plain roles p next ≡ Some t) → GoOn
  second_goes d g off others = grind (arith, filled out u, filled env t)

  node_dual : (from to : ℕ) → p ≢ q → Part Plain roles p env from to tree t → Part Plain roles q out from to tree u → (p ≢ from → p ≢ to → ((next : GlobalType) → IsNext tree next → (projection Plain roles p next ≡ Some t) × (projection Plain roles q next ≡ Some u)) → GoOn) → GoOn
  node_dual from to ne (as_sender a b) (as_sender c d) neither = absurd (ne (a ∙ sym c))
  node_dual from to ne (as_receiver a b) (as_receiver c d) neither = absurd (ne (a ∙ sym c))
  node_dual from to ne (as_sender a b) (as_receiver c d) neither =
      first_sends (b.way ∙ ap To (sym c)) (d.way ∙ ap From (sym a)) (λ m x h.
      let k = followed Plain roles p env (after_message (unfolded (filled env t)) m) (tree_after tree m) x (b.goes m) h in
      grind (arith, led Plain roles q out (after_message (unfolded (filled out u)) m) (tree_after tree m) k.0 (d.goes m) k.2, filled env k.1, next_after tree m k.0 k.2))
  node_dual from to ne (as_receiver a b) (as_sender c d) neither =
      second_sends (d.way ∙ ap To (sym a)) (b.way ∙ ap From (sym c)) (λ m y h.
      let k = followed Plain roles q out (after_message (unfolded (filled out u)) m) (tree_after tree m) y (d.goes m) h in
      grind (arith, led Plain roles p env (after_message (unfolded (filled env t)) m) (tree_after tree m) k.0 (b.goes m) k.2, filled out k.1, next_after tree m k.0 k.2))
  node_dual from to ne (as_sender a b) (as_neither c d e) neither = first_goes (To to) b (elsewhere_to (unfolded (filled env t)) q to b.way d) e
  node_dual from to ne (as_receiver a b) (as_neither c d e) neither = first_goes (From from) b (elsewhere_from (unfolded (filled env t)) q from b.way c) e
  node_dual from to ne (as_neither a b e) (as_sender c d) neither = second_goes (To to) d (elsewhere_to (unfolded (filled out u)) p to d.way b) e
  node_dual from to ne (as_neither a b e) (as_receiver c d) neither = second_goes (From from) d (elsewhere_from (unfolded (filled out u)) p from d.way a) e
  node_dual from to ne (as_neither a b e) (as_neither c d f) neither = neither a b (λ next i. (e next i, f next i))

unfolded_end : unfolded End ≡ End
unfolding unfolded
unfolded_end = refl

-- a role that has ended is dual to any
pub first_ended : (p q : ℕ) (R : LocalType → LocalType → Type 0) (t u : LocalType) → t ≡ End → DualStep p q R (unfolded t) u
first_ended p q R t u e = grind (arith, unfolded_end)

pub second_ended : (p q : ℕ) (R : LocalType → LocalType → Type 0) (t u : LocalType) → u ≡ End → DualStep p q R t (unfolded u)
second_ended p q R t u e = grind (arith, unfolded_end)

-- a type in the place of a variable, in two environments
both_put : (b : Bool) (F : LocalType → LocalType → Type 0) (t t' s s' : LocalType) → (b ≡ true → F t t') → (b ≡ false → F s s') → F (cond b t s) (cond b t' s')
both_put b F t t' s s' f g = grind arith

-- two environments of whole types, which are dual n actions deep
record AreDualEnvs (n p q : ℕ) (env out : Env) : Type 0 where
  first : AreWhole env
  second : AreWhole out
  each : (z : List ℕ) → Dual n p q (unfolded (env z)) (unfolded (out z))

module _ (roles : List (List ℕ)) (p q : ℕ) where
  -- the projections of any tree are dual n actions deep, where what stands for its variables is
  abbrev DualFor : (n : ℕ) → Type 0
  DualFor n =
      (tree : GlobalType) (t u : LocalType) (env out : Env) → projection Plain roles p tree ≡ Some t → projection Plain roles q tree ≡ Some u → AreDualEnvs n p q env out → Dual n p q (unfolded (filled env t)) (unfolded (filled out u))

  -- and one action more, where what stands for the variables that come before any action is
  abbrev DualNext : (n : ℕ) → GlobalType → Type 0
  DualNext n tree =
      (t u : LocalType) (env out : Env) → projection Plain roles p tree ≡ Some t → projection Plain roles q tree ≡ Some u → AreDualEnvs n p q env out → ((z : List ℕ) → ends_in z t ≡ true → ends_in z u ≡ true → Dual (suc n) p q (unfolded (env z)) (unfolded (out z))) → DualStep p q (Dual n p q) (unfolded (filled env t)) (unfolded (filled out u))

  -- a loop is dual one action more where its body is, with the loops in the place of its variable
  loop_dual : (n : ℕ) (name : List ℕ) (body : GlobalType) (b c : LocalType) (env out : Env) → DualFor n → DualNext n body → projection Plain roles p (global.Rec name body) ≡ Some (Rec name b) → projection Plain roles q (global.Rec name body) ≡ Some (Rec name c) → projection Plain roles p body ≡ Some b → projection Plain roles q body ≡ Some c → ends_in name b ≡ false → ends_in name c ≡ false → AreDualEnvs n p q env out → ((z : List ℕ) → ends_in z (Rec name b) ≡ true → ends_in z (Rec name c) ≡ true → Dual (suc n) p q (unfolded (env z)) (unfolded (out z))) → DualStep p q (Dual n p q) (unfolded (filled env (Rec name b))) (unfolded (filled out (Rec name c)))
  loop_dual n name body b c env out again inner e f eb fc gb gc envs here =
      let t = filled env (Rec name b) in
      let u = filled out (Rec name c) in
      let inside : AreDualEnvs n p q (put name t env) (put name u out) = record {
        first = whole_put name t env (whole_filled env envs.first (Rec name b)) envs.first;
        second = whole_put name u out (whole_filled out envs.second (Rec name c)) envs.second;
        each = λ z. both_put (bytes_eq z name) (λ x y. Dual n p q (unfolded x) (unfolded y)) t u (env z) (out z) (λ h. again (global.Rec name body) (Rec name b) (Rec name c) env out e f envs) (λ h. envs.each z);
      } in
      let start = inner b c (put name t env) (put name u out) eb fc inside
      (λ z h i. both_put (bytes_eq z name) (λ x y. Dual (suc n) p q (unfolded x) (unfolded y)) t u (env z) (out z)
      (λ k. absurd (let bad : ends_in name b ≡ true = subst (λ (l : List ℕ). ends_in l b ≡ true) (name_is z name k) h in cc))
      (λ k. let l : bytes_eq name z ≡ false = name_turned name z ∙ k in here z (rw l h) (rw l i))) in
      grind (arith, loop_unfolds name b env envs.first gb, filled (put name t env) b, loop_unfolds name c out envs.second gc)

  rec_dual : (n : ℕ) (name : List ℕ) (body : GlobalType) → DualFor n → DualNext n body → DualNext n (global.Rec name body)
  rec_dual n name body again inner t u env out e f envs here = by_parts (rec_parts Plain roles p name body t e) (rec_parts Plain roles q name body u f)
    where
      by_parts : RecParts Plain roles p name body t → RecParts Plain roles q name body u → DualStep p q (Dual n p q) (unfolded (filled env t)) (unfolded (filled out u))
      by_parts (idle a b) k = first_ended p q (Dual n p q) (filled env t) (unfolded (filled out u)) (ap (filled env) b)
      by_parts k (idle a b) = second_ended p q (Dual n p q) (unfolded (filled env t)) (filled out u) (ap (filled out) b)
      by_parts (busy a b c d) (busy a' b' c' d') =
          subst (λ (x : LocalType). DualStep p q (Dual n p q) (unfolded (filled env x)) (unfolded (filled out u))) (sym d)
          (subst (λ (y : LocalType). DualStep p q (Dual n p q) (unfolded (filled env (Rec name b))) (unfolded (filled out y))) (sym d')
          (loop_dual n name body b b' env out again inner (e ∙ ap Some d) (f ∙ ap Some d') c c' (busy_guarded Plain roles p name body b a c) (busy_guarded Plain roles q name body b' a' c') envs
          (λ z h i. here z (ap (ends_in z) d ∙ h) (ap (ends_in z) d' ∙ i))))

  dual_next : (n : ℕ) → p ≢ q → DualFor n → (tree : GlobalType) → DualNext n tree
  dual_next n ne again global.End t u env out e f envs here =
      first_ended p q (Dual n p q) (filled env t) (unfolded (filled out u)) (ap (filled env) (let k : t ≡ End = cc in k))
  dual_next n ne again (global.Var name) t u env out e f envs here =
      let k : Var name ≡ t = cc in
      let l : Var name ≡ u = cc in
      subst (λ (x : LocalType). DualStep p q (Dual n p q) (unfolded (filled env x)) (unfolded (filled out u))) k
      (subst (λ (y : LocalType). DualStep p q (Dual n p q) (unfolded (env name)) (unfolded (filled out y))) l
      (here name (ap (ends_in name) (sym k) ∙ name_same name) (ap (ends_in name) (sym l) ∙ name_same name)))
  dual_next n ne again (global.Rec name body) t u env out e f envs here = grind (arith, rec_dual n name body again (dual_next n ne again body) t u env out e f envs here)
  dual_next n ne again (global.Message sender receiver sort next) t u env out e f envs here =
      node_dual roles p q n (global.Message sender receiver sort next) t u env out
      (λ other x y i ex ey. again other x y env out ex ey envs)
      (place_of roles sender) (place_of roles receiver) ne
      (message_part Plain roles p env sender receiver sort next t e) (message_part Plain roles q out sender receiver sort next u f)
      (λ a b g. let k = g next refl in dual_next n ne again next t u env out k.0 k.1 envs here)
  dual_next n ne again (global.Choice sender receiver global.NoMore) t u env out e f envs here = grind (arith, choice_part roles p env sender receiver global.NoMore t e, choice_part roles q out sender receiver global.NoMore u f)
  dual_next n ne again (global.Choice sender receiver (global.More label next others)) t u env out e f envs here =
      node_dual roles p q n (global.Choice sender receiver (global.More label next others)) t u env out
      (λ other x y i ex ey. again other x y env out ex ey envs)
      (place_of roles sender) (place_of roles receiver) ne
      (choice_part roles p env sender receiver (global.More label next others) t e) (choice_part roles q out sender receiver (global.More label next others) u f)
      (λ a b g. let k = g next (label, rw (name_same label) refl) in dual_next n ne again next t u env out k.0 k.1 envs here)

  duals : p ≢ q → (n : ℕ) → DualFor n
  duals ne zero tree t u env out e f envs = tt
  duals ne (suc n) tree t u env out e f envs =
      dual_next n ne (duals ne n) tree t u env out e f
      (record { first = envs.first; second = envs.second; each = λ z. dual_less n p q (unfolded (env z)) (unfolded (out z)) (envs.each z) })
      (λ z h i. envs.each z)

  -- so the projections of a tree without free variables are dual
  pub projections_dual : (tree : GlobalType) (t u : LocalType) → p ≢ q → projection Plain roles p tree ≡ Some t → projection Plain roles q tree ≡ Some u → is_closed [] t ≡ true → is_closed [] u ≡ true → AreDual p q t u
  projections_dual tree t u ne e f s r n =
      let env : Env = λ z. End in
      let envs : AreDualEnvs n p q env env = record { first = λ z x y. refl; second = λ z x y. refl; each = λ z. ended n } in
      let d = duals ne n tree t u env env e f envs in
      grind (arith, filled_same, filled)
    where
      ended : (n : ℕ) → Dual n p q (unfolded End) (unfolded End)
      ended zero = tt
      ended (suc n) = first_ended p q (Dual n p q) End (unfolded End) refl
