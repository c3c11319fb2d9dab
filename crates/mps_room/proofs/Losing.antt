-- Who loses a step.
use Rattle.std.proofs.Common.{arith, ◌≡◌, ℕ, ◌<◌, Bool, true, false, List, length, get_or, set, get_or-set_same, get_or-set_other}
use Rattle.std.specs.Prelude.{◌==◌, ◌||◌}
use Rattle.std.proofs.lemmas.Bool.{cases_eq, eq-eqb, ne_eqb}

pub or_false : (b : Bool) → (b || false) ≡ b
or_false b = grind arith

-- one role more
pub marked : (lost : List Bool) (o p : ℕ) → o < length lost → get_or (set lost o true) p false ≡ (get_or lost p false || (o == p))
marked lost o p within = grind (arith, get_or-set_same, eq-eqb, get_or-set_other, ne_eqb, or_false, cases_eq)

-- who lost one of the steps so far, this one, or one that is left
pub one_more : (was mine rest whole now : Bool) → (was || (mine || rest)) ≡ whole → now ≡ (was || mine) → (now || rest) ≡ whole
one_more was mine rest whole now is e = grind arith
