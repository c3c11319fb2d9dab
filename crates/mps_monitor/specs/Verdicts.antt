-- What a role's type says of a command.
use Rattle.std.specs.Prelude.{◌≡◌, ℕ, Bool, true, false, Option, Some, None, option_and_then, IsSome, ⊤}
use Rattle.mps_base.specs.Effects.{Effect, Gives, Takes, Idle, effect}
use Rattle.mps_base.specs.declared.action.Act.{Act}
use Rattle.mps_base.specs.declared.action.Message.{Message}
use Rattle.mps_command.specs.Acts.{act_of}
use Rattle.mps_command.specs.declared.command.Forward.{Forward}
use Rattle.mps_local.specs.Actions.{Head, continuation}
use Rattle.mps_local.specs.Local.{LocalType}
use Rattle.mps_machine.specs.Rule.{first_of, type_after}
use Rattle.mps_machine.specs.View.{View}
use Rattle.mps_table.specs.Expects.{Allows}
use Rattle.mps_monitor.specs.declared.verdict.Advance.{Advance}
use Rattle.mps_monitor.specs.declared.verdict.Advance.TheVariants.{Stay, Next, Into}

-- the message that goes with an effect: the one that it gives, or the first that waits from the peer where it takes one
abbrev pub moved_with : Effect → Option Message → Option Message
moved_with (Gives to m) first = Some m
moved_with (Takes from slot) first = first
moved_with Idle first = None

-- the peer of an effect, if it has one
abbrev pub peer_in : Effect → Option ℕ
peer_in (Gives to m) = Some to
peer_in (Takes from slot) = Some from
peer_in Idle = None

-- whether the effect gives and takes nothing
abbrev pub gives_and_takes_nothing : Effect → Bool
gives_and_takes_nothing Idle = true
gives_and_takes_nothing effect = false

-- the message that a command moves: the one that it gives, or the first that waits from the peer
abbrev pub moved_by : Forward → Option Message → Option Message
moved_by command first = moved_with (effect (act_of command)) first

-- the peer whom a command names, if it names one
abbrev pub peer_of : Forward → Option ℕ
peer_of command = peer_in (effect (act_of command))

-- whether the command gives and takes nothing, as a mark and a commit do
abbrev pub is_idle : Forward → Bool
is_idle command = gives_and_takes_nothing (effect (act_of command))

-- the first message that waits for role p from the peer, if there is one
abbrev pub waiting_from : View → ℕ → Option ℕ → Option Message
waiting_from v p peer = option_and_then (λ q. first_of (v.queue q p)) peer

-- where the type goes on after the act that moves this message: what is left then is what follows its first action
abbrev pub IsLeft : LocalType → Act → Option Message → Option ℕ → Type 0
IsLeft t act m choice = (type_after t act m ≡ continuation t choice) × IsSome (continuation t choice)

-- the type goes on so: not at all after an act that gives and takes nothing, else after its value, or in the branch of
-- that place
abbrev pub GoesOn : Advance → LocalType → Act → Option Message → Type 0
GoesOn Stay t act m = effect act ≡ Idle
GoesOn Next t act m = IsLeft t act m None
GoesOn (Into k) t act m = IsLeft t act m (Some k)

-- a type that begins so lets a role go on in that way: it may always stay, and else what the type allows may follow
abbrev pub IsOffered : Advance → Head → Type 0
IsOffered Stay h = ⊤
IsOffered Next h = Allows None h
IsOffered (Into k) h = Allows (Some k) h
