-- How many steps a set has.
use Rattle.std.proofs.Common.{◌≡◌, ◌<◌, ◌≤◌, ◌+◌, ℕ, Bool, false, List, [], ◌∷◌, ◌++◌, length, refl, sym, ap, ◌∙◌, arith, inl, inr, eq-eqb, length-append}
use Rattle.std.specs.Prelude.{◌==◌, ◌||◌}
use Rattle.std.proofs.lemmas.Bool.{cases_Bool, cond-true, cond-false, ne_eqb, or_left}
use Rattle.std.proofs.lemmas.List.Elements.{filter-append}
use Rattle.mps_base.specs.declared.action.Step.{Step}
use Rattle.mps_history.specs.Steps.{IsIn, IsRising, within}
use Rattle.mps_history.specs.Dependence.{with}
use Rattle.mps_history.proofs.Order.{at_member, from_members, rising_apart, IsRising-append_right}
use Rattle.mps_history.proofs.Removal.{filter-same}

-- one number more
module _ (set : ℕ → Bool) where
  count_kept : (n : ℕ) (l : List Step) → ((t : Step) → IsIn t l → (t.id == n) ≡ false) → within l (with set n) ≡ within l set
  count_kept n l apart = filter-same (λ s. with set n s.id) (λ s. set s.id) l (from_members (λ s. with set n s.id ≡ set s.id) l (λ t i. ap (λ b. b || set t.id) (apart t i)))

  pub count_more : (a d : List Step) (s : Step) → IsRising (a ++ s ∷ d) → set s.id ≡ false → length (within (a ++ s ∷ d) (with set s.id)) ≡ length (within (a ++ s ∷ d) set) + 1
  count_more a d s r fresh =
      let after = IsRising-append_right a (s ∷ d) r in
      let front = count_kept s.id a (λ t i. let less = rising_apart a (s ∷ d) t s r i (inl refl) in ne_eqb t.id s.id (λ e. omega arith)) in
      let rear = count_kept s.id d (λ t i. let less = at_member (λ u. s.id < u.id) d t after.0 i in ne_eqb t.id s.id (λ e. omega arith)) in
      grind (arith, filter-append, or_left, eq-eqb, length-append, cond-true, cond-false)

-- a set that lacks a step has fewer than all
pub lacks_one : (l : List Step) (set : ℕ → Bool) (t : Step) → IsIn t l → set t.id ≡ false → length (within l set) < length l
lacks_one [] set t i e = absurd i
lacks_one (s ∷ l) set t (inl q) e =
    let off : set s.id ≡ false = ap (λ (u : Step). set u.id) (sym q) ∙ e in
    omega (arith, ap length (cond-false (set s.id) (s ∷ within l set) (within l set) off), most l)
  where
    most : (l : List Step) → length (within l set) ≤ length l
    most [] = omega arith
    most (u ∷ l) =
        let rest = most l in
        grind (arith, cases_Bool (set u.id))
lacks_one (s ∷ l) set t (inr i) e = grind (arith, lacks_one l set t i e, cases_Bool (set s.id))
