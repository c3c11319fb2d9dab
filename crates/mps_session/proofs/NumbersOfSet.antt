-- The steps of a set are those whose numbers are told.
use Rattle.std.proofs.Common.{arith, ◌≡◌, ℕ, Bool, true, false, List, [], ◌∷◌, reverse, refl, sym, ap, ◌∙◌, ⊎_elim, inl, inr, eq-eqb}
use Rattle.std.specs.Prelude.{◌==◌}
use Rattle.std.proofs.lemmas.Bool.{cases_Bool, cond-true, cond-false, eqb-true, or_cases, or_left, or_right, false_from_ne_true}
use Rattle.std.proofs.lemmas.List.Sorted.{IsPermutation-reverse, list_any-IsPermutation}
use Rattle.mps_base.specs.declared.action.Step.{Step}
use Rattle.mps_history.specs.Steps.{IsIn, numbers, within}
use Rattle.mps_history.proofs.Order.{from_members}
use Rattle.mps_history.proofs.Removal.{filter-same, filter-none}
use Rattle.mps_session.specs.NumberSets.{is_among}

within_yes : (set : ℕ → Bool) (s : Step) (h : List Step) → set s.id ≡ true → within (s ∷ h) set ≡ s ∷ within h set
within_yes set s h t = cond-true (set s.id) (s ∷ within h set) (within h set) t

within_no : (set : ℕ → Bool) (s : Step) (h : List Step) → set s.id ≡ false → within (s ∷ h) set ≡ within h set
within_no set s h f = cond-false (set s.id) (s ∷ within h set) (within h set) f

-- the number of a step of the set is told
kept : (set : ℕ → Bool) (h : List Step) (s : Step) → IsIn s h → set s.id ≡ true → is_among (numbers (within h set)) s.id ≡ true
kept set [] s i t = absurd i
kept set (x ∷ h) s (inl e) t = grind (arith, within_yes, or_left, eq-eqb)
kept set (x ∷ h) s (inr i) t = grind (arith, cond-true, or_right, cond-false, cases_Bool, kept set h s i t)

-- and no other number
only : (set : ℕ → Bool) (h : List Step) (n : ℕ) → is_among (numbers (within h set)) n ≡ true → set n ≡ true
only set [] n t = absurd cc
only set (x ∷ h) n t =
    ⊎_elim
    (λ (y : set x.id ≡ true).
    ⊎_elim
    (λ (e : (x.id == n) ≡ true). ap set (sym (eqb-true x.id n e)) ∙ y)
    (λ (r : is_among (numbers (within h set)) n ≡ true). only set h n r)
    (or_cases (x.id == n) (is_among (numbers (within h set)) n) (sym (ap (λ (l : List Step). is_among (numbers l) n) (within_yes set x h y)) ∙ t)))
    (λ (f : set x.id ≡ false). only set h n (sym (ap (λ (l : List Step). is_among (numbers l) n) (within_no set x h f)) ∙ t))
    (cases_Bool (set x.id))

told_reversed : (ids : List ℕ) (n : ℕ) → is_among (reverse ids) n ≡ is_among ids n
told_reversed ids n = sym (list_any-IsPermutation (λ m. m == n) ids (reverse ids) (IsPermutation-reverse ids))

-- the steps of a set, by their numbers in any order
pub within_told : (h : List Step) (set : ℕ → Bool) (ids : List ℕ) → ids ≡ reverse (numbers (within h set)) → within h (is_among ids) ≡ within h set
within_told h set ids is = grind (arith, filter-same, from_members, told_reversed, kept, false_from_ne_true, only, cases_Bool)

-- no number tells no step
pub within_none : (h : List Step) (ids : List ℕ) → ids ≡ [] → within h (is_among ids) ≡ []
within_none h ids is = ap (λ (l : List ℕ). within h (is_among l)) is ∙ filter-none (λ s. is_among [] s.id) h (from_members (λ s. is_among [] s.id ≡ false) h (λ s i. refl))
