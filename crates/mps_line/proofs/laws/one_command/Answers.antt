-- `one_command` meets its clauses `command`, `spelling`, `known` and `shown`, by the lemmas of ShownLines and OneSpelling.
use Rattle.mps_line.specs.Commands.{command_tokens}
use Rattle.mps_line.proofs.ShownLines.{shown_command}
use Rattle.mps_line.proofs.OneSpelling.{same_command, line_spelling, names_roles}
use Rattle.mps_line.proofs.laws.one_command.Goals as goal

pub returns-clause-command : goal.returns-clause-command
returns-clause-command c = same_command c.one_spelling.ensures.value

pub returns-clause-spelling : goal.returns-clause-spelling
returns-clause-spelling c = λ names a b d. line_spelling names a b (command_tokens d)

pub returns-clause-known : goal.returns-clause-known
returns-clause-known c = names_roles

pub returns-clause-shown : goal.returns-clause-shown
returns-clause-shown c = shown_command
