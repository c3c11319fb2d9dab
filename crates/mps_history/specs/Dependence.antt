-- Which steps depend on which: happened-before (Lamport 1978) over the steps of a history.
use Rattle.std.specs.Prelude.{ℕ, Bool, ◌==◌, nat_lt, ◌&&◌, ◌||◌, not, min, if◌then◌else◌, List, [], ◌∷◌, length, Option}
use Rattle.std.specs.Prelude.{Some, None, unwrap_or, IsTrue}
use Rattle.std.specs.List.{filter, list_any}
use Rattle.mps_base.specs.declared.action.Step.{Step}
use Rattle.mps_history.specs.Steps.{IsIn, numbers, sends, receives, within}

-- how many of the steps before number n send from p to q
abbrev pub sent_before : ℕ → ℕ → ℕ → List Step → ℕ
sent_before p q n h = length (filter (λ s. nat_lt s.id n && sends p q s) h)

-- how many of the steps before number n take something that came from p to q
abbrev pub received_before : ℕ → ℕ → ℕ → List Step → ℕ
received_before p q n h = length (filter (λ s. nat_lt s.id n && receives p q s) h)

-- t receives what s sent: s is the k-th send from one role to another, and t the other's k-th receipt from it
abbrev pub is_matched : List Step → Step → Step → Bool
is_matched h s t =
    sends s.role t.role s && receives s.role t.role t
    && sent_before s.role t.role s.id h == received_before s.role t.role t.id h

-- t depends directly on s: s is earlier, and both are of one role or t receives what s sent
abbrev pub depends_on : List Step → Step → Step → Bool
depends_on h t s = nat_lt s.id t.id && (s.role == t.role || is_matched h s t)

-- t depends on s, through one or more direct dependences
pub data DependsOn (h : List Step) : Step → Step → Type 0 where
  Directly : (t s : Step) → IsTrue (depends_on h t s) → DependsOn h t s
  Through : (t u s : Step) → IsIn u h → IsTrue (depends_on h t u) → DependsOn h u s → DependsOn h t s

-- where a member is in the set, each step of the history that depends directly on it is
abbrev pub IsClosed : List Step → (ℕ → Bool) → Type 0
IsClosed h set = (t s : Step) → IsIn t h → IsIn s h → IsTrue (set s.id) → IsTrue (depends_on h t s) → IsTrue (set t.id)

-- the set, and the number n
abbrev pub with : (ℕ → Bool) → ℕ → (ℕ → Bool)
with set n = λ m. m == n || set m

-- the set after a pass over the steps, oldest first, in which each step joins that depends directly on a member
abbrev pub joined : List Step → (ℕ → Bool) → List Step → (ℕ → Bool)
joined h set [] = set
joined h set (t ∷ later) =
    joined h (if list_any (λ s. set s.id && depends_on h t s) h then with set t.id else set) later

-- the step of number n and all that depend on it
abbrev pub consequences : List Step → ℕ → (ℕ → Bool)
consequences h n = joined h (λ m. m == n) h

-- the numbers of the other steps that depend on step n
abbrev pub dependents : List Step → ℕ → List ℕ
dependents h n = numbers (filter (λ s. not (s.id == n)) (within h (consequences h n)))

-- the least of the numbers
abbrev pub least : List ℕ → Option ℕ
least [] = None
least (n ∷ ns) = Some (min n (unwrap_or (least ns) n))
