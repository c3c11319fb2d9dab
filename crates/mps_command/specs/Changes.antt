-- What a command asks to change.
use Rattle.std.specs.Prelude.{Option, Some, None}
use Rattle.mps_command.specs.declared.command.Change.{Change}
use Rattle.mps_command.specs.declared.command.Change.TheVariants as changes
use Rattle.mps_command.specs.declared.command.Command.{Command}
use Rattle.mps_command.specs.declared.command.Command.TheVariants.{Forward, Undo, Rollback, Back, News, Show, Stand}

-- the change that a command asks for; none, where it asks how things stand
abbrev pub change_of : Command → Option Change
change_of (Forward step) = Some (changes.Forward step)
change_of (Undo n) = Some (changes.Undo n)
change_of (Rollback n) = Some (changes.Rollback n)
change_of (Back name) = Some (changes.Back name)
change_of (News n) = None
change_of Show = None
change_of Stand = None

-- the command that asks for a change
abbrev pub command_of : Change → Command
command_of (changes.Forward step) = Forward step
command_of (changes.Undo n) = Undo n
command_of (changes.Rollback n) = Rollback n
command_of (changes.Back name) = Back name
