-- The least step that depends on another is the first that depends on it directly.
use Rattle.std.proofs.Common.{◌≡◌, ℕ, ◌<◌, ◌⊎◌, Bool, true, false, List, [], ◌∷◌, ◌++◌, min, not, Option, Some, refl, sym, ap, ◌∙◌, subst, arith, ⊎_elim, inl, append_assoc}
use Rattle.std.specs.Prelude.{◌==◌, ◌&&◌, slice_get}
use Rattle.std.specs.List.{filter, find}
use Rattle.std.specs.Option.{option_map}
use Rattle.std.proofs.lemmas.Bool.{cases_Bool, ne_eqb, eqb-false, and_parts, and_from, false_from_ne_true, both_ways, not-true, not_from_false}
use Rattle.mps_base.specs.declared.action.Step.{Step}
use Rattle.mps_history.specs.Steps.{IsIn, IsRising, numbers}
use Rattle.mps_history.specs.Dependence.{depends_on, DependsOn, Directly, Through, consequences, least, dependents}
use Rattle.mps_history.proofs.Order.{at_member, IsIn-append, IsIn-append_right, IsRising-append_right, IsRising-filter}
use Rattle.mps_history.proofs.Reaching.{earlier, DependsOn-earlier, consequences_only, consequences_all}

abbrev pub id_of : Option Step → Option ℕ
id_of o = option_map (λ (s : Step). s.id) o

pub least_first : (l : List Step) → IsRising l → least (numbers l) ≡ id_of (slice_get l 0)
least_first [] r = refl
least_first (s ∷ []) r = let e : min s.id s.id ≡ s.id = omega arith in ap Some e
least_first (s ∷ t ∷ l) r = grind (arith, least_first (t ∷ l) r.1)

pub first_filter : (p : Step → Bool) (h : List Step) → slice_get (filter p h) 0 ≡ find p h
first_filter p [] = refl
first_filter p (x ∷ h) = ⊎_elim (λ (t : p x ≡ true). rw t refl) (λ (f : p x ≡ false). rw f (first_filter p h)) (cases_Bool (p x))

pub find_filter : (p q : Step → Bool) (h : List Step) → find p (filter q h) ≡ find (λ x. q x && p x) h
find_filter p q [] = refl
find_filter p q (x ∷ h) = grind (arith, find_filter p q h, cases_Bool (q x))

-- tests of which the first holds first where the second does find the same
module _ (p q : Step → Bool) (h : List Step) (rising : IsRising h)
    (sub : (t : Step) → IsIn t h → q t ≡ true → p t ≡ true)
    (first : (t : Step) → IsIn t h → p t ≡ true → (q t ≡ true) ⊎ ((u : Step) × IsIn u h × (u.id < t.id) × (p u ≡ true))) where
  not_before : (a b : List Step) (x u : Step) → IsRising (x ∷ b) → IsIn u (a ++ x ∷ b) → u.id < x.id → IsIn u a
  not_before a b x u r i less = grind (arith, at_member, IsIn-append u a (x ∷ b) i)

  find_from : (a b : List Step) → h ≡ a ++ b → ((u : Step) → IsIn u a → p u ≡ false) → find p b ≡ find q b
  find_from a [] e none = refl
  find_from a (x ∷ b) e none =
      let here : IsIn x h = subst (λ (l : List Step). IsIn x l) (sym e) (IsIn-append_right x a (x ∷ b) (inl refl)) in
      let r : IsRising (x ∷ b) = IsRising-append_right a (x ∷ b) (subst IsRising e rising) in
      ⊎_elim
      (grind (arith, both_ways, not_before))
      (λ (f : p x ≡ false).
      let g : q x ≡ false = false_from_ne_true (q x) (λ z. both_ways (p x) f (sub x here z)) in
      let rest = find_from (a ++ x ∷ []) b (e ∙ sym (append_assoc a (x ∷ []) b))
      (λ u i. ⊎_elim (λ (l : IsIn u a). none u l) (λ (k : (u ≡ x) ⊎ ⊥). ⊎_elim (λ (s : u ≡ x). ap p s ∙ f) (λ (z : ⊥). absurd z) k) (IsIn-append u a (x ∷ []) i)) in
      rw (f, g) rest)
      (cases_Bool (p x))

  find_same : find p h ≡ find q h
  find_same = find_from [] h refl (λ u i. absurd i)

module _ (h : List Step) (s : Step) (rising : IsRising h) (is : IsIn s h) where
  abbrev depends : Step → Bool
  depends t = consequences h s.id t.id && not (t.id == s.id)

  later : (t : Step) → s.id < t.id → not (t.id == s.id) ≡ true
  later t less = not_from_false (t.id == s.id) (ne_eqb t.id s.id (λ e. omega arith))

  directly : (t : Step) → IsIn t h → depends_on h t s ≡ true → depends t ≡ true
  directly t i e = and_from (consequences h s.id t.id) (not (t.id == s.id)) (consequences_all h rising is i (Directly t s e)) (later t (earlier h t s e))

  through : {t u : Step} → IsIn t h → DependsOn h t u → u ≡ s → (depends_on h t s ≡ true) ⊎ ((v : Step) × IsIn v h × (v.id < t.id) × (depends v ≡ true))
  through i (Directly t u e) same = inl (subst (λ (z : Step). depends_on h t z ≡ true) same e)
  through i (Through t v u j e d) same = grind (arith, earlier, and_from, consequences_all, not_from_false, ne_eqb, DependsOn-earlier)

  either : (t : Step) → IsIn t h → depends t ≡ true → (depends_on h t s ≡ true) ⊎ ((v : Step) × IsIn v h × (v.id < t.id) × (depends v ≡ true))
  either t i e = grind (arith, and_parts, eqb-false, not-true, through, consequences_only)

  -- the least of what depends on s is the first that depends on it directly
  pub least_is : least (dependents h s.id) ≡ option_map (λ (t : Step). t.id) (find (λ t. depends_on h t s) h)
  least_is =
      let q = λ (t : Step). consequences h s.id t.id in
      let p = λ (t : Step). not (t.id == s.id) in
      least_first (filter p (filter q h)) (IsRising-filter p (filter q h) (IsRising-filter q h rising))
      ∙ ap id_of (first_filter p (filter q h) ∙ find_filter p q h ∙ find_same depends (λ t. depends_on h t s) h rising directly either)
