-- What depends on a step, by the steps up to there.
use Rattle.std.proofs.Common.{◌≡◌, ℕ, ◌≤◌, Bool, List, ◌++◌, length, arith, append-nil}
use Rattle.std.specs.Prelude.{◌&&◌, nat_lt}
use Rattle.std.specs.List.{filter}
use Rattle.std.proofs.lemmas.Bool.{and_left, le-ltb}
use Rattle.std.proofs.lemmas.List.Elements.{filter-append}
use Rattle.mps_base.specs.declared.action.Step.{Step}
use Rattle.mps_history.specs.Steps.{IsIn, IsRising, sends, receives}
use Rattle.mps_history.specs.Dependence.{depends_on}
use Rattle.mps_history.proofs.Order.{from_members, rising_apart}
use Rattle.mps_history.proofs.Removal.{filter-none}

-- of the steps before a number none is a later one
before_front : (f : Step → Bool) (n : ℕ) (a b : List Step) → ((t : Step) → IsIn t b → n ≤ t.id) → length (filter (λ t. nat_lt t.id n && f t) (a ++ b)) ≡ length (filter (λ t. nat_lt t.id n && f t) a)
before_front f n a b later = grind (arith, filter-none, from_members, and_left, le-ltb, filter-append, append-nil)

-- so what is later doesn't count
pub depends_in_prefix : (a b : List Step) (t s : Step) → IsRising (a ++ b) → IsIn t a → IsIn s a → depends_on (a ++ b) t s ≡ depends_on a t s
depends_in_prefix a b t s r it is =
    let sent = before_front (sends s.role t.role) s.id a b (λ u i. let less = rising_apart a b s u r is i in omega arith) in
    let got = before_front (receives s.role t.role) t.id a b (λ u i. let less = rising_apart a b t u r it i in omega arith) in
    (cc)
