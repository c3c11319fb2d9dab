-- `one_numbered` meets its clauses `number`, `command`, `spelling`, `known` and `shown`, by the lemmas of NumberedLines and ShownLines.
use Rattle.mps_line.proofs.NumberedLines.{same_number, same_numbered, numbered_spelling, numbered_names_roles}
use Rattle.mps_line.proofs.ShownLines.{shown_numbered}
use Rattle.mps_line.proofs.laws.one_numbered.Goals as goal

pub returns-clause-number : goal.returns-clause-number
returns-clause-number c = same_number

pub returns-clause-command : goal.returns-clause-command
returns-clause-command c = same_numbered c.one_spelling.ensures.value

pub returns-clause-spelling : goal.returns-clause-spelling
returns-clause-spelling c = numbered_spelling

pub returns-clause-known : goal.returns-clause-known
returns-clause-known c = numbered_names_roles

pub returns-clause-shown : goal.returns-clause-shown
returns-clause-shown c = shown_numbered
