-- Pending keys keep their numbers.
use Rattle.std.proofs.Common.{◌≡◌, ℕ, Bool, List, [], ◌∷◌, Option, Some, None, refl, map, length, ◌<◌, zero, suc, sym, ap, ◌∙◌, arith}
use Rattle.std.specs.Prelude.{◌==◌, slice_index_or, slice_set}
use Rattle.std.specs.Option.{option_map, unwrap_or}
use Rattle.std.proofs.lemmas.Bool.{cases_Bool}
use Rattle.std.proofs.lemmas.List.{get_or-map}
use Rattle.mps_arena.specs.KeyedSteps.{KeyedStep, with_mark}
use Rattle.mps_arena.specs.Neighbours.{id_in}
use Rattle.mps_links.specs.Private.Numbered.{key_of, keys_alone, HasNumber, HaveNumbers}
use Rattle.mps_links.specs.declared.order.NumberedKey.{NumberedKey}

pub number_at : (es : List KeyedStep) (l : List (Option NumberedKey)) (i : ℕ) (d : Option NumberedKey) → i < length l → HaveNumbers es l → HasNumber es (slice_index_or l i d)
number_at es [] i d small h = absurd (omega arith)
number_at es (x ∷ l) zero d small h = h.0
number_at es (x ∷ l) (suc i) d small h = number_at es l i d (omega arith) h.1

-- a mark changes no number
pub id_marked : (k : ℕ) (m : Bool) (j : ℕ) (es : List KeyedStep) → id_in (map (with_mark k m) es) j ≡ id_in es j
id_marked k m j [] = refl
id_marked k m j (e ∷ es) = grind (arith, id_marked k m j es, cases_Bool (e.key == j))

pub numbers_marked : (k : ℕ) (m : Bool) (es : List KeyedStep) (l : List (Option NumberedKey)) → HaveNumbers es l → HaveNumbers (map (with_mark k m) es) l
numbers_marked k m es [] h = tt
numbers_marked k m es (x ∷ l) h = grind (arith, id_marked, numbers_marked k m es l h.1)

-- where f changes what is pending of the step's role
pub role_is : (o : Option KeyedStep) (r : ℕ) (l : List (Option ℕ)) (f : Option ℕ → Option ℕ) → option_map (λ e. e.step.role) o ≡ Some r
    → unwrap_or (option_map (λ e. slice_set l e.step.role (f (slice_index_or l e.step.role None))) o) l ≡ slice_set l r (f (slice_index_or l r None))
role_is o r l f is = grind arith

-- the key of what is there, and of nothing none
pub key_there : (l : List (Option NumberedKey)) (i : ℕ) (d : Option NumberedKey) (n : NumberedKey) (k : ℕ) → i < length l → slice_index_or l i d ≡ Some n → slice_index_or (keys_alone l) i None ≡ Some k → n.key ≡ k
key_there l i d n k small is first = let one : Some n.key ≡ Some k = sym (ap key_of is) ∙ sym (get_or-map key_of l i d None small) ∙ first in cc

pub no_key_there : (l : List (Option NumberedKey)) (i : ℕ) (d : Option NumberedKey) (k : ℕ) → i < length l → ((n : NumberedKey) → slice_index_or l i d ≡ Some n → ⊥) → slice_index_or (keys_alone l) i None ≡ Some k → ⊥
no_key_there l i d k small absent first = by_cases (slice_index_or l i d) refl
  where
    by_cases : (o : Option NumberedKey) → slice_index_or l i d ≡ o → ⊥
    by_cases None e = let none : None ≡ Some k = sym (ap key_of e) ∙ sym (get_or-map key_of l i d None small) ∙ first in absurd cc
    by_cases (Some n) e = absent n e
