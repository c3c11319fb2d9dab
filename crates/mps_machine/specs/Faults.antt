-- Why a command is refused, before it is looked at whether what it brings has a place.
use Rattle.std.specs.Prelude.{ℕ, List, Option, Some, None, option_and_then}
use Rattle.mps_local.specs.Local.{LocalType}
use Rattle.mps_command.specs.Changes.{change_of}
use Rattle.mps_command.specs.declared.command.Command.{Command}
use Rattle.mps_command.specs.declared.answer.Refusal.{Refusal}
use Rattle.mps_command.specs.declared.answer.Refusal.TheVariants.{Full}
use Rattle.mps_command.specs.declared.answer.Answer.{Answer}
use Rattle.mps_command.specs.declared.answer.Answer.TheVariants.{Refused}
use Rattle.mps_machine.specs.Machine.{State, serve}

-- the refusal that is answered, if one is; Full aside
abbrev pub refusal_in : Answer → Option Refusal
refusal_in (Refused Full) = None
refusal_in (Refused refusal) = Some refusal
refusal_in answer = None

-- why the machine refuses what role p asks for, Full aside; how things stand may always be asked
abbrev pub fault : List LocalType → State → ℕ → Command → Option Refusal
fault types st p c = option_and_then (λ change. refusal_in (serve types st p change).0) (change_of c)
