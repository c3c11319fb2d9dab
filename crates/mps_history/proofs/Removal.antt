-- What filters keep, and what a new last step has to do with the others.
use Rattle.std.proofs.Common.{◌≡◌, ◌<◌, Bool, true, false, List, [], ◌∷◌, ◌++◌, cond, refl, sym, ap, ◌∙◌, arith, ⊎_elim, inl, eq-eqb, append-nil}
use Rattle.std.specs.Prelude.{◌==◌}
use Rattle.std.specs.List.{filter, AllByRecursion}
use Rattle.std.proofs.lemmas.Bool.{cases_Bool, cond-true, cond-false, ne_eqb, false≢true, false_from_ne_true}
use Rattle.std.proofs.lemmas.List.Elements.{filter-append}
use Rattle.mps_base.specs.declared.action.Step.{Step}
use Rattle.mps_history.specs.Steps.{IsIn, IsRising, without, within}
use Rattle.mps_history.specs.Dependence.{DependsOn, consequences}
use Rattle.mps_history.proofs.Order.{from_members, rising_apart, IsIn-append_left, IsIn-append_right}
use Rattle.mps_history.proofs.Reaching.{consequences_only, consequences_self, DependsOn-earlier}

pub filter-none : (p : Step → Bool) (h : List Step) → AllByRecursion (λ t. p t ≡ false) h → filter p h ≡ []
filter-none p [] a = refl
filter-none p (x ∷ h) a = cond-false (p x) (x ∷ filter p h) (filter p h) a.0 ∙ filter-none p h a.1

pub filter-all : (p : Step → Bool) (h : List Step) → AllByRecursion (λ t. p t ≡ true) h → filter p h ≡ h
filter-all p [] a = refl
filter-all p (x ∷ h) a = cond-true (p x) (x ∷ filter p h) (filter p h) a.0 ∙ ap (λ l. x ∷ l) (filter-all p h a.1)

-- filters by tests that agree on the members are the same
pub filter-same : (p q : Step → Bool) (h : List Step) → AllByRecursion (λ t. p t ≡ q t) h → filter p h ≡ filter q h
filter-same p q [] a = refl
filter-same p q (x ∷ h) a = ap (λ (l : List Step). cond (p x) (x ∷ l) l) (filter-same p q h a.1) ∙ ap (λ (b : Bool). cond b (x ∷ filter q h) (filter q h)) a.0

-- a filter passes over what a weaker filter took out
pub filter-filter : (f g : Step → Bool) (h : List Step) → AllByRecursion (λ t. f t ≡ true → g t ≡ true) h → filter f (filter g h) ≡ filter f h
filter-filter f g [] a = refl
filter-filter f g (x ∷ h) a =
    ⊎_elim
    (λ (y : g x ≡ true). rw y (ap (λ l. cond (f x) (x ∷ l) l) (filter-filter f g h a.1)))
    (λ (n : g x ≡ false).
    let no : f x ≡ false = false_from_ne_true (f x) (λ e. false≢true (sym n ∙ a.0 e)) in
    rw n (filter-filter f g h a.1 ∙ sym (cond-false (f x) (x ∷ filter f h) (filter f h) no)))
    (cases_Bool (g x))

module _ (h : List Step) (s : Step) (rising : IsRising (h ++ s ∷ [])) where
  earlier_id : (t : Step) → IsIn t h → t.id < s.id
  earlier_id t i = rising_apart h (s ∷ []) t s rising i (inl refl)

  not_last : (t : Step) → IsIn t h → (t.id == s.id) ≡ false
  not_last t i = let less = earlier_id t i in ne_eqb t.id s.id (λ e. omega arith)

  -- no earlier step is a consequence of the last
  not_consequence : (t : Step) → IsIn t h → consequences (h ++ s ∷ []) s.id t.id ≡ false
  not_consequence t i =
      let less = earlier_id t i in
      false_from_ne_true (consequences (h ++ s ∷ []) s.id t.id)
      (λ e.
      ⊎_elim (λ (q : t ≡ s). let same : t.id ≡ s.id = ap (λ (y : Step). y.id) q in absurd (omega arith))
      (λ (d : DependsOn (h ++ s ∷ []) t s). let more = DependsOn-earlier (h ++ s ∷ []) d in absurd (omega arith))
      (consequences_only (h ++ s ∷ []) s t rising (IsIn-append_right s h (s ∷ []) (inl refl)) (IsIn-append_left t h (s ∷ []) i) e))

  pub last_alone : within (h ++ s ∷ []) (consequences (h ++ s ∷ []) s.id) ≡ s ∷ []
  last_alone = grind (arith, filter-append, filter-none, from_members, not_consequence, cond-true, consequences_self)

  pub without_last : without (h ++ s ∷ []) (λ m. m == s.id) ≡ h
  without_last = grind (arith, filter-append, filter-all, from_members, not_last, cond-false, eq-eqb, append-nil)
