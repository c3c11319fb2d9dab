-- The neighbours of a step: what it is matched with, and what comes before and after it; and which step may go.
use Rattle.std.specs.Prelude.{◌≡◌, ℕ, List, length, Option, None, IsSome, IsSomeAnd, ⊤, slice_get}
use Rattle.std.specs.Option.{option_and_then, option_map}
use Rattle.mps_base.specs.Effects.{Effect, Gives, Takes, effect}
use Rattle.mps_history.specs.Steps.{sends, receives}
use Rattle.mps_arena.specs.Keys.{key_after, key_before, matched_key}
use Rattle.mps_arena.specs.Matched.{matched_receipt, matched_source}
use Rattle.mps_arena.specs.KeyedSteps.{KeyedStep, keys_of, any_step, of_role, like_sends, like, unlike, keyed_at}

-- of the sends of a pair the first that isn't received
abbrev pub first_waiting : List KeyedStep → ℕ → ℕ → Option ℕ
first_waiting es p q = slice_get (keys_of (sends p q) es) (length (keys_of (receives p q) es))

-- a receipt that joins is matched with the first send of its pair that isn't received, and there is one; other acts are
-- matched with nothing
abbrev pub IsSource : List KeyedStep → ℕ → Effect → Option ℕ → Type 0
IsSource es p (Takes from slot) source = (source ≡ first_waiting es from p) × IsSome source
IsSource es p effect source = source ≡ None

-- what a send or a receipt is matched with
abbrev pub matched_with : List KeyedStep → KeyedStep → Option ℕ
matched_with es e =
    matched_key e.key (keys_of (like e.step.role (effect e.step.act)) es)
    (keys_of (unlike e.step.role (effect e.step.act)) es)

-- a send has no receipt
abbrev pub IsUnreceived : List KeyedStep → KeyedStep → Effect → Type 0
IsUnreceived es e (Gives to message) = matched_with es e ≡ None
IsUnreceived es e effect = ⊤

-- the last step of its role, and no send that was received
pub record IsLastAndUnreceived (es : List KeyedStep) (e : KeyedStep) : Type 0 where
  pub last : key_after e.key (keys_of (of_role e.step.role) es) ≡ None
  pub unreceived : IsUnreceived es e (effect e.step.act)

abbrev pub CanGo : List KeyedStep → ℕ → Type 0
CanGo es k = IsSomeAnd (keyed_at k es) (IsLastAndUnreceived es)

-- what is linked to the keyed step of a key
abbrev pub linked : (KeyedStep → Option ℕ) → List KeyedStep → ℕ → Option ℕ
linked link es k = option_and_then link (keyed_at k es)

abbrev pub next_in : List KeyedStep → ℕ → Option ℕ
next_in es = linked (λ e. key_after e.key (keys_of any_step es)) es

abbrev pub prev_in : List KeyedStep → ℕ → Option ℕ
prev_in es = linked (λ e. key_before None e.key (keys_of any_step es)) es

abbrev pub next_of_role_in : List KeyedStep → ℕ → Option ℕ
next_of_role_in es = linked (λ e. key_after e.key (keys_of (of_role e.step.role) es)) es

abbrev pub prev_of_role_in : List KeyedStep → ℕ → Option ℕ
prev_of_role_in es = linked (λ e. key_before None e.key (keys_of (of_role e.step.role) es)) es

abbrev pub next_send_in : List KeyedStep → ℕ → Option ℕ
next_send_in es = linked (λ e. key_after e.key (keys_of (like_sends e.step.role (effect e.step.act)) es)) es

abbrev pub prev_send_in : List KeyedStep → ℕ → Option ℕ
prev_send_in es = linked (λ e. key_before None e.key (keys_of (like_sends e.step.role (effect e.step.act)) es)) es

abbrev pub receipt_in : List KeyedStep → ℕ → Option ℕ
receipt_in es = linked (λ e. matched_receipt (effect e.step.act) (matched_with es e)) es

abbrev pub source_in : List KeyedStep → ℕ → Option ℕ
source_in es = linked (λ e. matched_source (effect e.step.act) (matched_with es e)) es

abbrev pub id_in : List KeyedStep → ℕ → Option ℕ
id_in es k = option_map (λ e. e.step.id) (keyed_at k es)
