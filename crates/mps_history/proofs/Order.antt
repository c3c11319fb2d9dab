-- Numbers that rise, and steps found by them.
use Rattle.std.proofs.Common.{◌≡◌, ℕ, ◌<◌, ◌⊎◌, Bool, true, false, List, [], ◌∷◌, ◌++◌, Some, refl, sym, ap, ◌∙◌, subst, arith, ⊎_elim, inl, inr, eq-eqb}
use Rattle.std.specs.Prelude.{◌==◌}
use Rattle.std.specs.List.{filter, AllByRecursion}
use Rattle.std.proofs.lemmas.Bool.{cases_Bool, cond-true, cond-false, ne_eqb, eqb-true}
use Rattle.mps_base.specs.declared.action.Step.{Step}
use Rattle.mps_history.specs.Steps.{IsIn, IsRising, step_of}

-- what holds of each step holds of one of them
pub at_member : (P : Step → Type 0) (h : List Step) (t : Step) → AllByRecursion P h → IsIn t h → P t
at_member P [] t a i = absurd i
at_member P (x ∷ h) t a (inl e) = subst P (sym e) a.0
at_member P (x ∷ h) t a (inr i) = at_member P h t a.1 i

-- what holds of each member holds of all
pub from_members : (P : Step → Type 0) (h : List Step) → ((t : Step) → IsIn t h → P t) → AllByRecursion P h
from_members P [] f = tt
from_members P (x ∷ h) f = (f x (inl refl), from_members P h (λ t i. f t (inr i)))

pub IsIn-append_left : (t : Step) (a b : List Step) → IsIn t a → IsIn t (a ++ b)
IsIn-append_left t [] b i = absurd i
IsIn-append_left t (x ∷ a) b (inl e) = inl e
IsIn-append_left t (x ∷ a) b (inr i) = inr (IsIn-append_left t a b i)

pub IsIn-append_right : (t : Step) (a b : List Step) → IsIn t b → IsIn t (a ++ b)
IsIn-append_right t [] b i = i
IsIn-append_right t (x ∷ a) b i = inr (IsIn-append_right t a b i)

pub IsIn-append : (t : Step) (a b : List Step) → IsIn t (a ++ b) → IsIn t a ⊎ IsIn t b
IsIn-append t [] b i = inr i
IsIn-append t (x ∷ a) b (inl e) = inl (inl e)
IsIn-append t (x ∷ a) b (inr i) = ⊎_elim (λ (j : IsIn t a). inl (inr j)) (λ (j : IsIn t b). inr j) (IsIn-append t a b i)

-- a later step has a larger number
pub rising_apart : (a b : List Step) (s t : Step) → IsRising (a ++ b) → IsIn s a → IsIn t b → s.id < t.id
rising_apart [] b s t r i j = absurd i
rising_apart (x ∷ a) b s t r (inl e) j = grind (arith, at_member, IsIn-append_right)
rising_apart (x ∷ a) b s t r (inr i) j = rising_apart a b s t r.1 i j

pub IsRising-append_right : (a b : List Step) → IsRising (a ++ b) → IsRising b
IsRising-append_right [] b r = r
IsRising-append_right (x ∷ a) b r = IsRising-append_right a b r.1

-- one number is one step
pub same_step : (h : List Step) (s t : Step) → IsRising h → IsIn s h → IsIn t h → s.id ≡ t.id → s ≡ t
same_step [] s t r i j e = absurd i
same_step (x ∷ h) s t r (inl p) (inl q) e = p ∙ sym q
same_step (x ∷ h) s t r (inl p) (inr j) e = grind (arith, at_member)
same_step (x ∷ h) s t r (inr i) (inl q) e = grind (arith, at_member)
same_step (x ∷ h) s t r (inr i) (inr j) e = same_step h s t r.1 i j e

-- a step is found by its number
pub step_of_member : (h : List Step) (s : Step) → IsRising h → IsIn s h → step_of h s.id ≡ Some s
step_of_member [] s r i = absurd i
step_of_member (x ∷ h) s r (inl e) = grind (arith, cond-true, eq-eqb)
step_of_member (x ∷ h) s r (inr i) =
    let less = at_member (λ u. x.id < u.id) h s r.0 i in
    cond-false (x.id == s.id) (Some x) (step_of h s.id) (ne_eqb x.id s.id (λ e. omega arith)) ∙ step_of_member h s r.1 i

-- what is found by a number is a step of the history that has it
pub step_of_found : (h : List Step) (n : ℕ) (s : Step) → step_of h n ≡ Some s → IsIn s h × (s.id ≡ n)
step_of_found [] n s e = absurd cc
step_of_found (x ∷ h) n s e =
    ⊎_elim
    (grind (arith, cond-true, eqb-true))
    (λ (f : (x.id == n) ≡ false).
    let rest = step_of_found h n s (sym (cond-false (x.id == n) (Some x) (step_of h n) f) ∙ e) in
    (inr rest.0, rest.1))
    (cases_Bool (x.id == n))

-- a member that passes stays in a filter, and what stays was a member that passes
pub IsIn-filter : (p : Step → Bool) (t : Step) (h : List Step) → IsIn t h → p t ≡ true → IsIn t (filter p h)
IsIn-filter p t [] i e = absurd i
IsIn-filter p t (x ∷ h) (inl q) e = rw (ap p (sym q) ∙ e) (inl q)
IsIn-filter p t (x ∷ h) (inr i) e =
    ⊎_elim (λ (y : p x ≡ true). rw y (inr (IsIn-filter p t h i e))) (λ (n : p x ≡ false). rw n (IsIn-filter p t h i e)) (cases_Bool (p x))

pub filter-IsIn : (p : Step → Bool) (t : Step) (h : List Step) → IsIn t (filter p h) → IsIn t h × (p t ≡ true)
filter-IsIn p t [] i = absurd i
filter-IsIn p t (x ∷ h) i =
    ⊎_elim
    (λ (y : p x ≡ true).
    let j : (t ≡ x) ⊎ IsIn t (filter p h) = rw y at i in
    ⊎_elim (λ (q : t ≡ x). (inl q, ap p q ∙ y)) (λ (k : IsIn t (filter p h)). let r = filter-IsIn p t h k in (inr r.0, r.1)) j)
    (λ (n : p x ≡ false). let j : IsIn t (filter p h) = rw n at i in let r = filter-IsIn p t h j in (inr r.0, r.1))
    (cases_Bool (p x))

-- what holds of each step holds of each that passes
pub AllByRecursion-filter : (P : Step → Type 0) (p : Step → Bool) (h : List Step) → AllByRecursion P h → AllByRecursion P (filter p h)
AllByRecursion-filter P p h a = from_members P (filter p h) (λ t i. at_member P h t a (filter-IsIn p t h i).0)

pub IsRising-filter : (p : Step → Bool) (h : List Step) → IsRising h → IsRising (filter p h)
IsRising-filter p [] r = tt
IsRising-filter p (x ∷ h) r =
    ⊎_elim
    (λ (y : p x ≡ true). rw y (AllByRecursion-filter (λ t. x.id < t.id) p h r.0, IsRising-filter p h r.1))
    (λ (n : p x ≡ false). rw n (IsRising-filter p h r.1))
    (cases_Bool (p x))

-- a step with a larger number than all others may join at the end
pub IsRising-push : (h : List Step) (s : Step) → IsRising h → AllByRecursion (λ t. t.id < s.id) h → IsRising (h ++ s ∷ [])
IsRising-push [] s r b = (tt, tt)
IsRising-push (x ∷ h) s r b = (
  from_members (λ t. x.id < t.id) (h ++ s ∷ [])
      (λ t i.
      ⊎_elim (λ (j : IsIn t h). at_member (λ u. x.id < u.id) h t r.0 j)
      (λ (j : (t ≡ s) ⊎ ⊥). ⊎_elim (λ (e : t ≡ s). subst (λ (y : Step). x.id < y.id) (sym e) b.0) (λ (k : ⊥). absurd k) j)
      (IsIn-append t h (s ∷ []) i)),
  IsRising-push h s r.1 b.1,
)
