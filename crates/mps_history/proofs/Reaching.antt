-- The pass that finds what depends on a step finds just what reaches it by one or more dependences.
use Rattle.std.proofs.Common.{◌≡◌, ℕ, ◌<◌, ◌⊎◌, Bool, true, false, List, [], ◌∷◌, cond, refl, sym, ap, ◌∙◌, subst, arith, ⊎_elim, inl, inr, eq-eqb}
use Rattle.std.specs.Prelude.{◌==◌, ◌&&◌, ◌||◌, nat_lt}
use Rattle.std.specs.List.{list_any, AllByRecursion}
use Rattle.std.proofs.lemmas.Bool.{cases_Bool, cond-true, cond-false, ne_eqb, eqb-true, ltb-true, cond_both, and_parts, and_from, or_cases, or_left, or_right}
use Rattle.mps_base.specs.declared.action.Step.{Step}
use Rattle.mps_history.specs.Steps.{IsIn, IsRising}
use Rattle.mps_history.specs.Dependence.{depends_on, is_matched, DependsOn, Directly, Through, IsClosed, with, joined, consequences}
use Rattle.mps_history.proofs.Order.{at_member, from_members, same_step}

-- what depends on a step is later
pub earlier : (h : List Step) (t s : Step) → depends_on h t s ≡ true → s.id < t.id
earlier h t s e = ltb-true s.id t.id (and_parts (nat_lt s.id t.id) (s.role == t.role || is_matched h s t) e).0

pub DependsOn-earlier : (h : List Step) {t s : Step} → DependsOn h t s → s.id < t.id
DependsOn-earlier h (Directly t s e) = earlier h t s e
DependsOn-earlier h (Through t u s i e d) = let a = earlier h t u e in let b = DependsOn-earlier h d in omega arith

-- a test that some member passes
pub any_member : (p : Step → Bool) (h : List Step) → list_any p h ≡ true → (u : Step) × IsIn u h × (p u ≡ true)
any_member p [] e = absurd cc
any_member p (x ∷ h) e =
    ⊎_elim (λ (y : p x ≡ true). (x, inl refl, y))
    (λ (n : list_any p h ≡ true). let r = any_member p h n in (r.0, inr r.1, r.2))
    (or_cases (p x) (list_any p h) e)

pub member_any : (p : Step → Bool) (h : List Step) (u : Step) → IsIn u h → p u ≡ true → list_any p h ≡ true
member_any p [] u i e = absurd i
member_any p (x ∷ h) u (inl q) e = or_left (p x) (list_any p h) (ap p (sym q) ∙ e)
member_any p (x ∷ h) u (inr i) e = or_right (p x) (list_any p h) (member_any p h u i e)

-- whether a step joins
abbrev pub joins : List Step → (ℕ → Bool) → Step → Bool
joins h set t = list_any (λ s. set s.id && depends_on h t s) h

-- the set after one step of the pass
abbrev pub next_set : List Step → (ℕ → Bool) → Step → (ℕ → Bool)
next_set h set t = cond (joins h set t) (with set t.id) set

next_set_grows : (h : List Step) (set : ℕ → Bool) (t : Step) (m : ℕ) → set m ≡ true → next_set h set t m ≡ true
next_set_grows h set t m e = grind (arith, cond_both, or_right)

joined_grows : (h : List Step) (set : ℕ → Bool) (l : List Step) (m : ℕ) → set m ≡ true → joined h set l m ≡ true
joined_grows h set [] m e = e
joined_grows h set (t ∷ l) m e = joined_grows h (next_set h set t) l m (next_set_grows h set t m e)

-- a number below those of the steps to come is settled
joined_settled : (h : List Step) (set : ℕ → Bool) (l : List Step) (m : ℕ) → AllByRecursion (λ t. m < t.id) l → joined h set l m ≡ set m
joined_settled h set [] m a = refl
joined_settled h set (t ∷ l) m a = grind (arith, cond_both, ne_eqb, joined_settled h (next_set h set t) l m a.1)

-- what depends on a member is one
joined_closed : (h : List Step) (set : ℕ → Bool) (l : List Step) (t u : Step) → IsRising l → IsIn u h → IsIn t l → depends_on h t u ≡ true → joined h set l u.id ≡ true → joined h set l t.id ≡ true
joined_closed h set [] t u r iu it d e = absurd it
joined_closed h set (x ∷ l) t u r iu (inl q) d e = grind (arith, earlier, joined_settled, from_members, at_member, member_any, and_from, cond-true, or_left, eq-eqb, joined_grows)
joined_closed h set (x ∷ l) t u r iu (inr i) d e = joined_closed h (next_set h set x) l t u r.1 iu i d e

pub consequences_closed : (h : List Step) (n : ℕ) → IsRising h → IsClosed h (consequences h n)
consequences_closed h n r t s it is e d = joined_closed h (λ m. m == n) h t s r is it d e

-- each member is the step itself or depends on it
abbrev OnlyReaching : List Step → Step → (ℕ → Bool) → Type 0
OnlyReaching h s set = (t : Step) → IsIn t h → set t.id ≡ true → (t ≡ s) ⊎ DependsOn h t s

joined_reaches : (h : List Step) (s : Step) (set : ℕ → Bool) (l : List Step) → IsRising h → ((t : Step) → IsIn t l → IsIn t h) → OnlyReaching h s set → OnlyReaching h s (joined h set l)
joined_reaches h s set [] r sub o = o
joined_reaches h s set (x ∷ l) r sub o =
    joined_reaches h s (next_set h set x) l r (λ t i. sub t (inr i))
    (λ t i e.
    ⊎_elim
    (λ (y : joins h set x ≡ true).
    let e' : (t.id == x.id || set t.id) ≡ true = sym (ap (λ (f : ℕ → Bool). f t.id) (cond-true (joins h set x) (with set x.id) set y)) ∙ e in
    ⊎_elim
    (λ (q : (t.id == x.id) ≡ true).
    let same = same_step h t x r i (sub x (inl refl)) (eqb-true t.id x.id q) in
    let w = any_member (λ u. set u.id && depends_on h x u) h y in
    let parts = and_parts (set w.0.id) (depends_on h x w.0) w.2 in
    let d : depends_on h t w.0 ≡ true = subst (λ (z : Step). depends_on h z w.0 ≡ true) (sym same) parts.1 in
    ⊎_elim
    (λ (k : w.0 ≡ s). inr (Directly t s (subst (λ (z : Step). depends_on h t z ≡ true) k d)))
    (λ (k : DependsOn h w.0 s). inr (Through t w.0 s w.1 d k))
    (o w.0 w.1 parts.0))
    (λ (q : set t.id ≡ true). o t i q)
    (or_cases (t.id == x.id) (set t.id) e'))
    (λ (n : joins h set x ≡ false). o t i (sym (ap (λ (f : ℕ → Bool). f t.id) (cond-false (joins h set x) (with set x.id) set n)) ∙ e))
    (cases_Bool (joins h set x)))

-- the members are the step and all that depends on it
pub consequences_only : (h : List Step) (s t : Step) → IsRising h → IsIn s h → IsIn t h → consequences h s.id t.id ≡ true → (t ≡ s) ⊎ DependsOn h t s
consequences_only h s t r is it e = grind (arith, joined_reaches, same_step, eqb-true)

-- the step itself
pub consequences_self : (h : List Step) (n : ℕ) → consequences h n n ≡ true
consequences_self h n = joined_grows h (λ m. m == n) h n (eq-eqb n n refl)

pub consequences_all : (h : List Step) {t s : Step} → IsRising h → IsIn s h → IsIn t h → DependsOn h t s → consequences h s.id t.id ≡ true
consequences_all h r is it (Directly t s e) = consequences_closed h s.id r t s it is (consequences_self h s.id) e
consequences_all h r is it (Through t u s i e d) = consequences_closed h s.id r t u it i (consequences_all h r is i d) e
