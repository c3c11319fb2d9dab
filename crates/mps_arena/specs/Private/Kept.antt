-- The invariant of an arena.
use Rattle.std.specs.Prelude.{◌≡◌, ℕ, ◌+◌, ◌*◌, ◌<◌, List, length, Option, Some, None, slice_index_or, slice_get}
use Rattle.std.specs.List.{AllByRecursion}
use Rattle.mps_history.specs.Steps.{sends, IsRising}
use Rattle.mps_arena.specs.declared.node.Node.{Node}
use Rattle.mps_arena.specs.Keys.{first_key, last_key}
use Rattle.mps_arena.specs.KeyedSteps.{KeyedStep, steps, keys_of, any_step, of_role, keyed_at, IsSmall}
use Rattle.mps_arena.specs.Private.Links.{AreNodes}

-- the number n + 1 of a keyed step leads to its key
pub record IsIndexed (index : List ℕ) (k : ℕ) (e : KeyedStep) : Type 0 where
  pub place : ℕ
  pub number : e.step.id ≡ place + 1
  pub key : slice_get index place ≡ Some k

pub record IsKept (look : ℕ → Option Node) (size : ℕ) (oldest newest : Option ℕ) (by_role by_pair : List (Option ℕ))
    (index : List ℕ) (es : List KeyedStep) : Type 0 where
  pub linked : AreNodes look es
  pub count : size ≡ length es
  pub first : oldest ≡ first_key (keys_of any_step es)
  pub last : newest ≡ last_key None (keys_of any_step es)
  pub roles : length by_role ≡ 8
  pub pairs : length by_pair ≡ 64
  pub last_of : (p : ℕ) → p < 8 → slice_index_or by_role p None ≡ last_key None (keys_of (of_role p) es)
  pub last_send : (p q : ℕ) → p < 8 → q < 8
      → slice_index_or by_pair (p * 8 + q) None ≡ last_key None (keys_of (sends p q) es)
  pub rising : IsRising (steps es)
  pub small : AllByRecursion (λ e. IsSmall e.step) es
  pub indexed : (k : ℕ) (e : KeyedStep) → keyed_at k es ≡ Some e → IsIndexed index k e
