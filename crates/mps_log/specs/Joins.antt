-- What a log is after a step has joined.
use Rattle.std.specs.Prelude.{◌≡◌, ◌+◌, ◌++◌, ◌∷◌, [], ℕ, false, List, Option, None}
use Rattle.std.specs.Option.{option_and_then, option_or}
use Rattle.mps_base.specs.declared.action.Act.{Act}
use Rattle.mps_history.specs.Slots.{value_in}
use Rattle.mps_arena.specs.KeyedSteps.{KeyedStep, keyed_at, AreSound}
use Rattle.mps_stores.specs.Stores.{Naming, bindings, slot_of, mark_of}
use Rattle.mps_log.specs.Logged.{Logged}

-- to what the name that an act of role p binds is bound before it; nothing where it binds none
abbrev pub bound_before : Naming → List KeyedStep → ℕ → Act → Option ℕ
bound_before naming es p act = option_and_then (λ name. value_in name (bindings naming p es)) (naming act)

-- the same of the slot of a receipt and of the name of a mark
abbrev pub replaced : List KeyedStep → ℕ → Act → Option ℕ
replaced es p act = option_or (bound_before slot_of es p act) (bound_before mark_of es p act)

-- the keyed step of an act of role p, which stood at that node
abbrev pub joining : Logged → ℕ → Act → ℕ → ℕ → KeyedStep
joining l p act at key = record {
  key = key;
  step = record { id = l.issued + 1; role = p; act = act };
  before = record { at = at; bound = replaced l.keyed_steps p act };
  marked = false;
}

-- the act of role p is the newest step, with the next number and under a key that was free
pub record HasJoined (old new : Logged) (p : ℕ) (act : Act) (at : ℕ) : Type 0 where
  pub key : ℕ
  pub fresh : keyed_at key old.keyed_steps ≡ None
  pub keyed_steps : new.keyed_steps ≡ old.keyed_steps ++ joining old p act at key ∷ []
  pub issued : new.issued ≡ old.issued + 1
  pub sound : AreSound new.keyed_steps
