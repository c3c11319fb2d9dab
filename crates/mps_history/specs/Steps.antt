-- Histories: lists of numbered steps, the oldest first. Order in one role and a send before its receipt are Lamport's
-- happened-before (1978), which `Dependence` defines from the words here.
use Rattle.std.specs.Prelude.{◌≡◌, ℕ, ◌<◌, ◌⊎◌, Bool, false, ◌==◌, ◌&&◌, not, List, [], ◌∷◌, ◌++◌, map, length, drop}
use Rattle.std.specs.Prelude.{Option, None, Some, if◌then◌else◌, ⊤}
use Rattle.std.specs.List.{filter, find, AllByRecursion}
use Rattle.std.specs.Option.{option_or}
use Rattle.mps_base.specs.declared.action.Act.{Act}
use Rattle.mps_base.specs.Effects.{Effect, Gives, Takes, effect}
use Rattle.mps_base.specs.declared.action.Message.{Message}
use Rattle.mps_base.specs.declared.action.Step.{Step}

-- the effect is to give q a value or a label
abbrev pub gives_to : ℕ → Effect → Bool
gives_to q (Gives to message) = to == q
gives_to q effect = false

-- the effect is to take a value or a label that came from p
abbrev pub takes_from : ℕ → Effect → Bool
takes_from p (Takes from slot) = from == p
takes_from p effect = false

-- the messages that come of the effect
abbrev pub messages_of : Effect → List Message
messages_of (Gives to message) = message ∷ []
messages_of effect = []

-- the act gives q a value or a label
abbrev pub goes_to : ℕ → Act → Bool
goes_to q act = gives_to q (effect act)

-- the act takes a value or a label that came from p
abbrev pub comes_from : ℕ → Act → Bool
comes_from p act = takes_from p (effect act)

-- p sends to q, a value or the label of a choice
abbrev pub sends : ℕ → ℕ → Step → Bool
sends p q s = s.role == p && goes_to q s.act

-- q receives from p, a value into a slot or a label by a pick
abbrev pub receives : ℕ → ℕ → Step → Bool
receives p q s = s.role == q && comes_from p s.act

-- the step stands in the history
abbrev pub IsIn : Step → List Step → Type 0
IsIn s [] = ⊥
IsIn s (t ∷ h) = (s ≡ t) ⊎ IsIn s h

-- the numbers of the steps, in order
abbrev pub numbers : List Step → List ℕ
numbers h = map (λ s. s.id) h

-- each number is above the one before it
abbrev pub IsRising : List Step → Type 0
IsRising [] = ⊤
IsRising (s ∷ h) = AllByRecursion (λ t. s.id < t.id) h × IsRising h

-- the step of that number
abbrev pub step_of : List Step → ℕ → Option Step
step_of h n = find (λ s. s.id == n) h

-- the history without the steps whose numbers are in the set, the others in order
abbrev pub without : List Step → (ℕ → Bool) → List Step
without h set = filter (λ s. not (set s.id)) h

-- the steps of the history whose numbers are in the set, in order
abbrev pub within : List Step → (ℕ → Bool) → List Step
within h set = filter (λ s. set s.id) h

-- the steps of one role, in order
abbrev pub steps_of : ℕ → List Step → List Step
steps_of p h = filter (λ s. s.role == p) h

-- of steps in order, each with something beside it, the last that is role p's
abbrev pub newest_of : {X : Type 0} → ℕ → List (Step × X) → Option (Step × X)
newest_of p [] = None
newest_of p (m ∷ ms) = option_or (newest_of p ms) (if m.0.role == p then Some m else None)

-- the messages that an act gives
abbrev pub given : Act → List Message
given act = messages_of (effect act)

-- the messages that the steps give, in order
abbrev pub all_given : List Step → List Message
all_given [] = []
all_given (s ∷ h) = given s.act ++ all_given h

-- the messages from p to q that wait: those that were sent, without the first k, where k is how many were received
abbrev pub unreceived : ℕ → ℕ → List Step → List Message
unreceived p q h = drop (length (filter (receives p q) h)) (all_given (filter (sends p q) h))
