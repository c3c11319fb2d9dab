-- Why an act isn't allowed.
-- The names and their order are this project's.
use Rattle.std.specs.Prelude.{ℕ, Bool, false, ◌==◌, if◌then◌else◌, Option, Some, None, is_some}
use Rattle.mps_base.specs.Effects.{Effect, Gives, Takes, Idle, effect}
use Rattle.mps_base.specs.declared.action.Act.{Act}
use Rattle.mps_base.specs.declared.action.Message.{Message}
use Rattle.mps_base.specs.declared.action.Message.TheVariants.{Value as Plain, Label}
use Rattle.mps_base.specs.declared.value.Sort.{Sort}
use Rattle.mps_base.specs.Sorts.{fits}
use Rattle.mps_local.specs.Actions.{branch_at}
use Rattle.mps_local.specs.Local.{LocalType, Branches, End, Send, Recv, Select, Branch}
use Rattle.mps_local.specs.Unfolding.{unfolded}
use Rattle.mps_command.specs.declared.answer.Violation.{Violation}
use Rattle.mps_command.specs.declared.answer.Violation.TheVariants.{Ended, WrongAct, WrongPeer, WrongSort, NoLabel}
use Rattle.mps_command.specs.declared.answer.Violation.TheVariants.{NothingQueued, Mismatch}
use Rattle.mps_machine.specs.View.{View}
use Rattle.mps_machine.specs.Rule.{moved}

-- a value of the sort, and no label
abbrev pub is_value_of : Sort → Message → Bool
is_value_of sort (Plain v) = fits v sort
is_value_of sort (Label l) = false

-- a label of one of the branches, and no value
abbrev pub is_label_of : Branches → Message → Bool
is_label_of branches (Plain v) = false
is_label_of branches (Label l) = is_some (branch_at l branches)

-- what is wrong with the first message that waits, where a message of this kind is expected
abbrev pub waiting_fault : (Message → Bool) → Option Message → Option Violation
waiting_fault expected None = Some NothingQueued
waiting_fault expected (Some m) = if expected m then None else Some Mismatch

-- Why an unfolded type doesn't allow the effect, where m is the message that it moves: the first that applies, in the
-- order of `Ended`, another kind of act, another peer, another sort, another label, nothing queued, another message.
-- An idle one is allowed always.
abbrev pub effect_fault : LocalType → Effect → Option Message → Option Violation
effect_fault t Idle m = None
effect_fault End effect m = Some Ended
effect_fault (Send peer sort next) (Gives to (Plain v)) m =
    if to == peer then (if fits v sort then None else Some WrongSort) else Some WrongPeer
effect_fault (Select peer branches) (Gives to (Label l)) m =
    if to == peer then (if is_some (branch_at l branches) then None else Some NoLabel) else Some WrongPeer
effect_fault (Recv peer sort next) (Takes from (Some slot)) m =
    if from == peer then waiting_fault (is_value_of sort) m else Some WrongPeer
effect_fault (Branch peer branches) (Takes from None) m =
    if from == peer then waiting_fault (is_label_of branches) m else Some WrongPeer
effect_fault t effect m = Some WrongAct

-- why an unfolded type doesn't allow the act, where m is the message that it moves. A mark and a commit are allowed
-- always
abbrev pub act_fault : LocalType → Act → Option Message → Option Violation
act_fault t act m = effect_fault t (effect act) m

-- why the role's type doesn't allow the act in this view
abbrev pub violation : View → ℕ → Act → Option Violation
violation v p act = act_fault (unfolded (v.participant p).to_come) act (moved v p act)
