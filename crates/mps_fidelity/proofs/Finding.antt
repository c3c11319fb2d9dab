-- A role that has something to do comes to it.
use Rattle.std.proofs.Common.{◌≡◌, ◌≢◌, ℕ, zero, suc, Bool, true, false, cond, List, [], ◌∷◌, ◌++◌, length, Option, None, Some, refl, sym, ap, ◌∙◌, subst}
use Rattle.std.specs.Prelude.{◌||◌}
use Rattle.std.specs.Str.{bytes_eq}
use Rattle.mps_global.specs.Global as global
use Rattle.mps_global.specs.Global.{GlobalType}
use Rattle.mps_global.specs.Faults.{is_among}
use Rattle.mps_local.specs.Local.{LocalType, End, Var, Rec}
use Rattle.mps_local.specs.Loops.{ends_in}
use Rattle.mps_local.specs.Projection.{place_of, projection}
use Rattle.mps_local.specs.Shape.{IsOtherRole}
use Rattle.mps_local.specs.Unfolding.{unfolded}
use Rattle.mps_local.specs.declared.merging.Merging.{Merging}
use Rattle.mps_local.proofs.Equal.{name_same, name_is, name_turned}
use Rattle.mps_local.proofs.Filling.{put, filled, loop_unfolds}
use Rattle.mps_local.proofs.Formed.{or_false}
use Rattle.mps_local.proofs.Silence.{RecParts, idle, busy, rec_parts, busy_guarded}
use Rattle.mps_fidelity.specs.Duality.{Nowhere, direction}
use Rattle.mps_fidelity.proofs.Arriving.{covered_way, type_or_end, env_of, whole_env, Goes, Arrives, Stands, arrived, passed, taken_there, message_stands, choice_stands}
use Rattle.mps_fidelity.proofs.Covering.{AreCovered}
use Rattle.mps_fidelity.proofs.Parts.{tree_at}
use Rattle.mps_fidelity.proofs.Path.{Around, Site, site, jump, taken, fewer, on, item, ahead, IsQuiet, Quiet}
use Rattle.mps_fidelity.proofs.Sites.{IsSound, AllSound, sound_body, sound_next, sound_branches, some_branch, sound_branch, branches_formed}

-- the variables of these loops
abbrev names : List Around → List (List ℕ)
names [] = []
names (l ∷ ls) = l.name ∷ names ls

jump_past : (chosen : ℕ → List (List ℕ)) (x : List ℕ) (inner outer : List Around) → is_among (names inner) x ≡ false → jump chosen x (inner ++ outer) ≡ jump chosen x outer
jump_past chosen x [] outer h = refl
jump_past chosen x (l ∷ inner) outer h =
    let k = or_false (bytes_eq x l.name) (is_among (names inner) x) h in
    rw k.0 (jump_past chosen x inner outer k.1)

unfolded_end : unfolded End ≡ End
unfolding unfolded
unfolded_end = refl

module _ (merging : Merging) (roles : List (List ℕ)) (p : ℕ) where
  env_past : (x : List ℕ) (inner outer : List Around) → is_among (names inner) x ≡ false → env_of merging roles p (inner ++ outer) x ≡ env_of merging roles p outer x
  env_past x [] outer h = refl
  env_past x (l ∷ inner) outer h =
      let k = or_false (bytes_eq x l.name) (is_among (names inner) x) h in
      rw k.0 (env_past x inner outer k.1)

  -- some nodes further, of which none is the role's, it comes to its own
  pub record Found (t : LocalType) (s : Site) : Type 0 where
    pub nodes : ℕ
    pub quiet : Quiet roles p nodes s
    pub arrives : Arrives merging roles p t (ahead roles nodes s)

  -- a node further on
  found_on : (t : LocalType) (s : Site) → Found t (on roles s) → IsQuiet p (item roles s) → Found t s
  found_on t s f q = record { nodes = suc f.nodes; quiet = (q, f.quiet); arrives = f.arrives }

  module _ (t : LocalType) (somewhere : direction t ≢ Nowhere) where
    -- the role hasn't ended
    not_ended : (u : LocalType) → AreCovered t (unfolded u) → u ≡ End → ⊥
    not_ended u c e =
        somewhere (covered_way t (unfolded u) c ∙ ap (λ (z : LocalType). direction (unfolded z)) e ∙ ap direction unfolded_end)

    -- where the type comes to a variable of a loop around
    abbrev Jumps : List Around → Type 0
    Jumps outer = (x : List ℕ) (chosen : ℕ → List (List ℕ)) → AllSound roles outer → AreCovered t (unfolded (env_of merging roles p outer x)) → Found t (jump chosen x outer)

    -- In a part of the tree, where the loops around are of two kinds: the type comes to no variable of the inner ones
    -- before an action.
    abbrev FindsIn : List Around → GlobalType → Type 0
    FindsIn outer tree =
        (inner : List Around) (chosen : ℕ → List (List ℕ)) (u : LocalType) → IsSound roles tree → AllSound roles (inner ++ outer) → ((z : List ℕ) → ends_in z u ≡ true → is_among (names inner) z ≡ false) → projection merging roles p tree ≡ Some u → AreCovered t (unfolded (filled (env_of merging roles p (inner ++ outer)) u)) → Found t (site chosen (inner ++ outer) tree)

    -- what stands here, or what comes next
    go_on : (s : Site) (u : LocalType) → Stands merging roles p t s u → ((g : Goes merging roles p t (on roles s)) → ((z : List ℕ) → ends_in z g.part ≡ true → ends_in z u ≡ true) → Found t (on roles s)) → Found t s
    go_on s u (arrived a) again = record { nodes = zero; quiet = tt; arrives = a }
    go_on s u (passed q g f) again = found_on t s (again g f) q

    -- a loop is found in where its body is
    rec_found : (outer inner : List Around) (chosen : ℕ → List (List ℕ)) (name : List ℕ) (body : GlobalType) (u : LocalType) → FindsIn outer body → IsSound roles (global.Rec name body) → AllSound roles (inner ++ outer) → ((z : List ℕ) → ends_in z u ≡ true → is_among (names inner) z ≡ false) → projection merging roles p (global.Rec name body) ≡ Some u → AreCovered t (unfolded (filled (env_of merging roles p (inner ++ outer)) u)) → Found t (site chosen (inner ++ outer) (global.Rec name body))
    rec_found outer inner chosen name body u find s ss free e c = by_parts (rec_parts merging roles p name body u e)
      where
        l : Around
        l = record { name = name; body = body }

        by_parts : RecParts merging roles p name body u → Found t (site chosen (inner ++ outer) (global.Rec name body))
        by_parts (idle a b) = absurd (not_ended (filled (env_of merging roles p (inner ++ outer)) u) c (ap (filled (env_of merging roles p (inner ++ outer))) b))
        by_parts (busy a b f g) =
            let env = env_of merging roles p (inner ++ outer) in
            let guard = busy_guarded merging roles p name body b a f in
            let d : AreCovered t (unfolded (filled env (Rec name b))) = subst (λ (z : LocalType). AreCovered t (unfolded (filled env z))) g c in
            let h : AreCovered t (unfolded (filled (put name (filled env (Rec name b)) env) b)) = subst (AreCovered t) (loop_unfolds name b env (whole_env merging roles p (inner ++ outer)) guard) d in
            let i : AreCovered t (unfolded (filled (env_of merging roles p (l ∷ (inner ++ outer))) b)) =
            subst (λ (o : Option LocalType). AreCovered t (unfolded (filled (put name (filled env (type_or_end o)) env) b))) (sym (e ∙ ap Some g)) h in
            found_on t (site chosen (inner ++ outer) (global.Rec name body))
            (find (l ∷ inner) chosen b (sound_body roles name body s) (sound_body roles name body s, ss) (free_body b guard g) f i) tt
          where
            free_body : (b : LocalType) → ends_in name b ≡ false → u ≡ Rec name b → (z : List ℕ) → ends_in z b ≡ true → is_among (names (l ∷ inner)) z ≡ false
            free_body b guard g z h = by_test (bytes_eq z name) refl (bytes_eq name z) refl
              where
                by_test : (a : Bool) → bytes_eq z name ≡ a → (d : Bool) → bytes_eq name z ≡ d → (a || is_among (names inner) z) ≡ false
                by_test true k d m = absurd (let bad : ends_in name b ≡ true = subst (λ (y : List ℕ). ends_in y b ≡ true) (name_is z name k) h in cc)
                by_test false k true m = absurd (let bad = name_turned z name ∙ m in cc)
                by_test false k false m = free z (ap (ends_in z) g ∙ rw m h)

    mutual
      find_tree : (outer : List Around) → Jumps outer → (tree : GlobalType) → FindsIn outer tree
      find_tree outer jumps global.End inner chosen u s ss free e c =
          absurd (not_ended (filled (env_of merging roles p (inner ++ outer)) u) c (ap (filled (env_of merging roles p (inner ++ outer))) (let k : u ≡ End = cc in k)))
      find_tree outer jumps (global.Var x) inner chosen u s ss free e c =
          let k : u ≡ Var x = cc in
          let out = free x (ap (ends_in x) k ∙ name_same x) in
          let d : AreCovered t (unfolded (env_of merging roles p outer x)) =
          subst (λ (z : LocalType). AreCovered t (unfolded z)) (ap (filled (env_of merging roles p (inner ++ outer))) k ∙ env_past x inner outer out) c in
          found_on t (site chosen (inner ++ outer) (global.Var x))
          (subst (Found t) (sym (jump_past chosen x inner outer out)) (jumps x chosen (all_past inner ss) d)) tt
        where
          all_past : (ls : List Around) → AllSound roles (ls ++ outer) → AllSound roles outer
          all_past [] h = h
          all_past (l ∷ ls) h = all_past ls h.1
      find_tree outer jumps (global.Rec name body) inner chosen u s ss free e c =
          rec_found outer inner chosen name body u (find_tree outer jumps body) s ss free e c
      find_tree outer jumps (global.Message sender receiver sort next) inner chosen u s ss free e c =
          go_on (site chosen (inner ++ outer) (global.Message sender receiver sort next)) u
          (message_stands merging roles p t chosen (inner ++ outer) sender receiver sort next u e c)
          (λ g f. find_tree outer jumps next inner chosen g.part (sound_next roles sender receiver sort next s) ss (λ z h. free z (f z h)) g.projected g.covered)
      find_tree outer jumps (global.Choice sender receiver branches) inner chosen u s ss free e c =
          let some = some_branch roles sender receiver branches s in
          let each = sound_branches roles sender receiver branches s in
          let branch = taken (chosen (place_of roles sender)) branches in
          let there = taken_there (chosen (place_of roles sender)) branches some in
          go_on (site chosen (inner ++ outer) (global.Choice sender receiver branches)) u
          (choice_stands merging roles p (IsOtherRole (length roles) p) each.bound t chosen (inner ++ outer) sender receiver branches u some (branches_formed roles merging p branches each) e c)
          (λ g f. find_branch outer jumps branches branch.0 branch.1 there inner (fewer (place_of roles sender) chosen) g.part (sound_branch roles branches each branch.0 branch.1 there) ss (λ z h. free z (f z h)) g.projected g.covered)

      find_branch : (outer : List Around) → Jumps outer → (branches : global.Branches) (l : List ℕ) (next : GlobalType) → tree_at l branches ≡ Some next → FindsIn outer next
      find_branch outer jumps global.NoMore l next e = absurd cc
      find_branch outer jumps (global.More m first others) l next e =
          by_test (bytes_eq m l) (find_tree outer jumps first) (find_branch outer jumps others l next) e
        where
          by_test : (b : Bool) → FindsIn outer first → (tree_at l others ≡ Some next → FindsIn outer next) → cond b (Some first) (tree_at l others) ≡ Some next → FindsIn outer next
          by_test true f again g = let same : first ≡ next = cc in subst (FindsIn outer) same f
          by_test false f again g = again g

    -- back in the loop around
    loop_found : (l : Around) (ls : List Around) (chosen : ℕ → List (List ℕ)) → AllSound roles (l ∷ ls) → FindsIn ls l.body → (o : Option LocalType) → projection merging roles p (global.Rec l.name l.body) ≡ o → AreCovered t (unfolded (filled (env_of merging roles p ls) (type_or_end o))) → Found t (site chosen (l ∷ ls) l.body)
    loop_found l ls chosen ss find None e d = absurd (not_ended End d refl)
    loop_found l ls chosen ss find (Some v) e d = by_parts (rec_parts merging roles p l.name l.body v e)
      where
        by_parts : RecParts merging roles p l.name l.body v → Found t (site chosen (l ∷ ls) l.body)
        by_parts (idle a b) = absurd (not_ended (filled (env_of merging roles p ls) v) d (ap (filled (env_of merging roles p ls)) b))
        by_parts (busy a b f g) =
            let env = env_of merging roles p ls in
            let guard = busy_guarded merging roles p l.name l.body b a f in
            let k : AreCovered t (unfolded (filled env (Rec l.name b))) = subst (λ (z : LocalType). AreCovered t (unfolded (filled env z))) g d in
            let h : AreCovered t (unfolded (filled (put l.name (filled env (Rec l.name b)) env) b)) = subst (AreCovered t) (loop_unfolds l.name b env (whole_env merging roles p ls) guard) k in
            let i : AreCovered t (unfolded (filled (env_of merging roles p (l ∷ ls)) b)) =
            subst (λ (o : Option LocalType). AreCovered t (unfolded (filled (put l.name (filled env (type_or_end o)) env) b))) (sym (e ∙ ap Some g)) h in
            find (l ∷ []) chosen b ss.0 ss (free b guard) f i
          where
            free : (b : LocalType) → ends_in l.name b ≡ false → (z : List ℕ) → ends_in z b ≡ true → is_among (names (l ∷ [])) z ≡ false
            free b guard z h = by_test (bytes_eq z l.name) refl
              where
                by_test : (a : Bool) → bytes_eq z l.name ≡ a → (a || false) ≡ false
                by_test true k = absurd (let bad : ends_in l.name b ≡ true = subst (λ (y : List ℕ). ends_in y b ≡ true) (name_is z l.name k) h in cc)
                by_test false k = refl

    -- each loop around comes to it
    jumps_of : (outer : List Around) → Jumps outer
    jumps_of [] x chosen ss c = absurd (not_ended End c refl)
    jumps_of (l ∷ ls) x chosen ss c =
        by_test (bytes_eq x l.name) (loop_found l ls chosen ss (find_tree ls (jumps_of ls) l.body) (projection merging roles p (global.Rec l.name l.body)) refl) (jumps_of ls x chosen ss.1) c
      where
        by_test : (b : Bool) → (AreCovered t (unfolded (filled (env_of merging roles p ls) (type_or_end (projection merging roles p (global.Rec l.name l.body))))) → Found t (site chosen (l ∷ ls) l.body)) → (AreCovered t (unfolded (env_of merging roles p ls x)) → Found t (jump chosen x ls)) → AreCovered t (unfolded (cond b (filled (env_of merging roles p ls) (type_or_end (projection merging roles p (global.Rec l.name l.body)))) (env_of merging roles p ls x))) → Found t (cond b (site chosen (l ∷ ls) l.body) (jump chosen x ls))
        by_test true found again d = found d
        by_test false found again d = again d

    -- so the role comes to it from wherever it can go on
    pub finds : (s : Site) → IsSound roles s.tree → AllSound roles s.loops → Goes merging roles p t s → Found t s
    finds s sound around g =
        find_tree s.loops (jumps_of s.loops) s.tree [] s.chosen g.part sound around (λ z h. refl) g.projected g.covered
