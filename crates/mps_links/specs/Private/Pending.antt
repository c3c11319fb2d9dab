-- What is still to be marked: the next step of a walk through one role's steps, and of each role a first receipt.
use Rattle.std.specs.Prelude.{◌≡◌, ℕ, Bool, true, false, if◌then◌else◌, List, Option, Some, None, slice_index_or, slice_set}
use Rattle.std.specs.Option.{option_and_then, option_map, unwrap_or}
use Rattle.mps_arena.specs.KeyedSteps.{KeyedStep, keyed_at}
use Rattle.mps_links.specs.Private.Order.{earlier}

-- whether the step of the key is marked, if it is there
abbrev pub mark_at : List KeyedStep → ℕ → Option Bool
mark_at es k = option_map (λ e. e.marked) (keyed_at k es)

-- the key, if its step is there and isn't marked
abbrev pub unless_marked : List KeyedStep → Option ℕ → Option ℕ
unless_marked es o = option_and_then (λ k. option_and_then (λ e. if e.marked then None else Some k) (keyed_at k es)) o

-- the roles' keys, where the receipt is one more of its role: the earlier stays
abbrev pub with_receipt : List KeyedStep → Option ℕ → List (Option ℕ) → List (Option ℕ)
with_receipt es None firsts = firsts
with_receipt es (Some k) firsts =
    unwrap_or (option_map (λ e. slice_set firsts e.step.role (earlier es (slice_index_or firsts e.step.role None) (Some k)))
    (keyed_at k es)) firsts

-- the key is the first receipt of a role, and not marked
pub record IsUnmarkedFirst (es : List KeyedStep) (firsts : List (Option ℕ)) (k : ℕ) : Type 0 where
  pub role : ℕ
  pub first : slice_index_or firsts role None ≡ Some k
  pub mark : mark_at es k ≡ Some false

-- each role's first receipt is marked
abbrev pub AreFirstsMarked : List KeyedStep → List (Option ℕ) → Type 0
AreFirstsMarked es firsts = (r k : ℕ) → slice_index_or firsts r None ≡ Some k → mark_at es k ≡ Some true
