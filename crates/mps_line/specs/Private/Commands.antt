-- Verbs with arguments, and those that stand alone.
use Rattle.std.specs.Prelude.{ℕ, ◌<◌, List, [], ◌∷◌, length, codes}
use Rattle.mps_command.specs.declared.command.Command.{Command}
use Rattle.mps_line.specs.Commands.{arguments}

-- the verbs after which nothing stands
abbrev pub lone_verbs : List (List ℕ)
lone_verbs = codes "commit" ∷ codes "show" ∷ codes "stand" ∷ []

-- something stands after the verb
abbrev pub TakesArguments : Command → Type 0
TakesArguments command = 0 < length (arguments command)
