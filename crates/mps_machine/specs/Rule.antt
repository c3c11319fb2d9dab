-- The rule of one step, and replay. Queues that keep order are those of Honda, Yoshida, Carbone (2008). That a monitor
-- may serve as a memory for taking steps back is from Mezzina, Pérez (Causally consistent reversible choreographies,
-- PPDP 2017). The form of participant, store and rule is this project's.
use Rattle.std.specs.Prelude.{ℕ, ◌==◌, ◌&&◌, if◌then◌else◌, List, [], ◌∷◌, ◌++◌, drop, Option, Some, None}
use Rattle.std.specs.Prelude.{option_and_then}
use Rattle.std.specs.Option.{option_map}
use Rattle.mps_base.specs.Effects.{Effect, Gives, Takes, Idle, effect}
use Rattle.mps_base.specs.declared.action.Act.{Act}
use Rattle.mps_base.specs.declared.action.Message.{Message}
use Rattle.mps_base.specs.declared.action.Message.TheVariants.{Value as Plain, Label}
use Rattle.mps_base.specs.declared.action.Step.{Step}
use Rattle.mps_base.specs.Sorts.{fits}
use Rattle.mps_local.specs.Local.{LocalType, Send, Recv, Select, Branch}
use Rattle.mps_local.specs.Actions.{branch_at}
use Rattle.mps_local.specs.Unfolding.{unfolded}
use Rattle.mps_history.specs.Slots.{bound}
use Rattle.mps_history.specs.Steps.{sends, receives, given}
use Rattle.mps_machine.specs.View.{Store, Participant, View}

-- the first message that waits
abbrev pub first_of : List Message → Option Message
first_of [] = None
first_of (m ∷ queue) = Some m

-- the message that goes with an effect of role p: the one that it gives, or the first that waits where it takes one
abbrev pub moved_by_effect : View → ℕ → Effect → Option Message
moved_by_effect v p (Gives to m) = Some m
moved_by_effect v p (Takes from slot) = first_of (v.queue from p)
moved_by_effect v p Idle = None

-- the message that the act of role p gives, or the one that it takes, if there is one
abbrev pub moved : View → ℕ → Act → Option Message
moved v p act = moved_by_effect v p (effect act)

-- what may come after the effect, which moves this message, where the unfolded type allows it
abbrev pub type_after_effect : LocalType → Effect → Option Message → Option LocalType
type_after_effect (Send peer sort next) (Gives to (Plain v)) m = if to == peer && fits v sort then Some next else None
type_after_effect (Select peer branches) (Gives to (Label l)) m = if to == peer then branch_at l branches else None
type_after_effect (Recv peer sort next) (Takes from (Some slot)) (Some (Plain v)) =
    if from == peer && fits v sort then Some next else None
type_after_effect (Branch peer branches) (Takes from None) (Some (Label l)) =
    if from == peer then branch_at l branches else None
type_after_effect t effect m = None

-- what may come after the act, which moves this message, where the unfolded type allows it
abbrev pub type_after : LocalType → Act → Option Message → Option LocalType
type_after t act m = type_after_effect t (effect act) m

-- the type to come after the effect, which moves this message, where it is allowed: an idle one leaves the type as it
-- is
abbrev pub to_come_after : LocalType → Effect → Option Message → Option LocalType
to_come_after t Idle m = Some t
to_come_after t effect m = type_after_effect (unfolded t) effect m

-- where a value is taken into a slot, the slot is bound to it
abbrev pub store_after_effect : Store → Effect → Option Message → Store
store_after_effect store (Takes from (Some slot)) (Some (Plain v)) = bound slot v store
store_after_effect store effect m = store

-- a receipt binds its slot to the value that it takes
abbrev pub store_after : Store → Act → Option Message → Store
store_after store act m = store_after_effect store (effect act) m

-- the act joins the past
abbrev pub advanced : Participant → Act → Option Message → LocalType → Participant
advanced c act m t = record {
  past = c.past
      ++ record { act = act; moved = m } ∷ [];
  to_come = t;
  store = store_after c.store act m;
}

-- the role after the act, which moves this message, where its type allows it. A mark and a commit are allowed always,
-- and the type stays
abbrev pub participant_after : Participant → Act → Option Message → Option Participant
participant_after c act m = option_map (advanced c act m) (to_come_after c.to_come (effect act) m)

-- the queue from p to q after the step: what p sends goes last, what q receives is taken from the front
abbrev pub queue_after : ℕ → ℕ → Step → List Message → List Message
queue_after p q s queue =
    if sends p q s then queue ++ given s.act else if receives p q s then drop 1 queue else queue

-- the view after a step of this participant
abbrev pub view_after : View → Step → Participant → View
view_after v s c = record {
  participant = λ p. if p == s.role then c else v.participant p;
  queue = λ p q. queue_after p q s (v.queue p q);
}

-- the view after the step, where it is allowed. The step's number isn't looked at
abbrev pub rule : View → Step → Option View
rule v s = option_map (view_after v s) (participant_after (v.participant s.role) s.act (moved v s.role s.act))

-- the view after the steps, each by the rule, where each is allowed
abbrev pub replay : View → List Step → Option View
replay v [] = Some v
replay v (s ∷ h) = option_and_then (λ w. replay w h) (rule v s)
