-- What a caller sees of an arena: the steps in order, each with its key and whether it is marked.
use Rattle.std.specs.Prelude.{◌≡◌, ◌++◌, ℕ, Bool, true, false, ◌==◌, List, map, Option, ◌<◌, ◌≤◌, length, ⊤}
use Rattle.std.specs.Prelude.{if◌then◌else◌}
use Rattle.std.specs.List.{filter, find, AllByRecursion}
use Rattle.mps_base.specs.Effects.{Effect, Gives, Takes, Idle, effect}
use Rattle.mps_base.specs.declared.action.Step.{Step}
use Rattle.mps_history.specs.Steps.{sends, receives, IsRising}
use Rattle.mps_arena.specs.declared.node.Before.{Before}
use Rattle.mps_arena.specs.Keys.{AreDistinct}

pub record KeyedStep : Type 0 where
  pub key : ℕ
  pub step : Step
  pub before : Before
  pub marked : Bool

-- the keyed steps, the oldest first; how many numbers were given out; the key of the next one; whether that needs no
-- allocation
pub record ArenaState : Type 0 where
  pub keyed_steps : List KeyedStep
  pub issued : ℕ
  pub next_key : ℕ
  pub has_space : Bool

abbrev pub steps : List KeyedStep → List Step
steps es = map (λ e. e.step) es

-- the keys of the steps that pass, in order
abbrev pub keys_of : (Step → Bool) → List KeyedStep → List ℕ
keys_of p es = map (λ e. e.key) (filter (λ e. p e.step) es)

abbrev pub any_step : Step → Bool
any_step s = true

abbrev pub of_role : ℕ → Step → Bool
of_role p s = s.role == p

-- the sends of the pair, where the effect of an act of p is to give a message
abbrev pub like_sends : ℕ → Effect → Step → Bool
like_sends p (Gives to message) = sends p to
like_sends p effect = λ s. false

-- the sends or the receipts of the pair, as the effect of an act of p is to give a message or to take one
abbrev pub like : ℕ → Effect → Step → Bool
like p (Gives to message) = sends p to
like p (Takes from slot) = receives from p
like p Idle = λ s. false

-- what these may be matched with: receipts of what p gives, sends of what it takes
abbrev pub unlike : ℕ → Effect → Step → Bool
unlike p (Gives to message) = receives p to
unlike p (Takes from slot) = sends from p
unlike p Idle = λ s. false

abbrev pub keyed_at : ℕ → List KeyedStep → Option KeyedStep
keyed_at k es = find (λ e. e.key == k) es

-- peers and roles are below 8
abbrev pub HasSmallPeer : Effect → Type 0
HasSmallPeer (Gives to message) = to < 8
HasSmallPeer (Takes from slot) = from < 8
HasSmallPeer Idle = ⊤

abbrev pub IsSmall : Step → Type 0
IsSmall s = (s.role < 8) × HasSmallPeer (effect s.act)

-- the keyed step, marked or not where it has that key
abbrev pub with_mark : ℕ → Bool → KeyedStep → KeyedStep
with_mark k m e = record e { marked = if e.key == k then m else e.marked }

-- at no point of the history a pair had more receipts than sends
abbrev pub IsFed : List KeyedStep → Type 0
IsFed es =
    (c d : List KeyedStep) → es ≡ c ++ d → (p q : ℕ)
    → length (keys_of (receives p q) c) ≤ length (keys_of (sends p q) c)

-- what holds of the keyed steps of each arena: no key stands twice, no pair ever had more receipts than sends, numbers
-- rise, roles and peers are below 8
pub record AreSound (es : List KeyedStep) : Type 0 where
  pub distinct : AreDistinct (keys_of any_step es)
  pub fed : IsFed es
  pub rising : IsRising (steps es)
  pub small : AllByRecursion (λ e. IsSmall e.step) es
