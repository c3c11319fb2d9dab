-- The k-th keyed step, by a walk from the first.
use Rattle.std.proofs.Common.{◌≡◌, ℕ, suc, ◌≤◌, List, [], ◌∷◌, length, Option, Some, None, refl, ap, ◌∙◌, arith, ⊎_elim, eq-eqb}
use Rattle.std.specs.Prelude.{slice_get}
use Rattle.std.proofs.lemmas.Option.{slice_get_past}
use Rattle.std.proofs.lemmas.Bool.{both_ways}
use Rattle.mps_arena.specs.Keys.{is_at, has, first_key, AreDistinct}
use Rattle.mps_arena.specs.KeyedSteps.{KeyedStep, keys_of, any_step, keyed_at}
use Rattle.mps_arena.specs.Neighbours.{next_in}
use Rattle.mps_arena.proofs.KeyLists.{get_in, get_none, get_after}
use Rattle.mps_arena.proofs.Chains.{absent, keyed_key}
use Rattle.mps_arena.proofs.Nodes.{cases_keyed}

pub all_keys : (es : List KeyedStep) → length (keys_of any_step es) ≡ length es
all_keys [] = refl
all_keys (e ∷ es) = ap suc (all_keys es)

pub first_place : (es : List KeyedStep) → first_key (keys_of any_step es) ≡ slice_get (keys_of any_step es) 0
first_place es = grind arith

pub next_place : (es : List KeyedStep) → AreDistinct (keys_of any_step es) → (n k : ℕ) → slice_get (keys_of any_step es) n ≡ Some k → next_in es k ≡ slice_get (keys_of any_step es) (suc n)
next_place es d n k e =
    let c = keys_of any_step es in
    ⊎_elim
    (λ (z : keyed_at k es ≡ None). absurd (both_ways (has k c) (absent any_step k es z) (get_in c n k (ap (λ (o : Option ℕ). is_at o k) e ∙ eq-eqb k k refl))))
    (grind (arith, keyed_key, get_after))
    (cases_keyed (keyed_at k es))

pub none_after : (es : List KeyedStep) (n m : ℕ) → n ≤ m → slice_get (keys_of any_step es) n ≡ None → slice_get (keys_of any_step es) m ≡ None
none_after es n m h e = grind (arith, get_none, slice_get_past)
