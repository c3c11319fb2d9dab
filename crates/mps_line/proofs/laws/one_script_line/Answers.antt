-- `one_script_line` meets its clauses `role`, `command`, `spelling` and `shown`, by the lemmas of OneSpelling and ShownLines.
use Rattle.std.specs.Prelude.{◌∷◌}
use Rattle.mps_line.specs.Tokens.{RoleAt}
use Rattle.mps_line.specs.Commands.{command_tokens}
use Rattle.mps_line.proofs.OneSpelling.{same_line, line_spelling}
use Rattle.mps_line.proofs.ShownLines.{shown_line}
use Rattle.mps_line.proofs.laws.one_script_line.Goals as goal

pub returns-clause-role : goal.returns-clause-role
returns-clause-role c = λ names a p q d e distinct h k. (same_line c.one_spelling.ensures.value names a p q d e distinct h k).0

pub returns-clause-command : goal.returns-clause-command
returns-clause-command c = λ names a p q d e distinct h k. (same_line c.one_spelling.ensures.value names a p q d e distinct h k).1

pub returns-clause-spelling : goal.returns-clause-spelling
returns-clause-spelling c = λ names a b p d. line_spelling names a b (RoleAt p ∷ command_tokens d)

pub returns-clause-shown : goal.returns-clause-shown
returns-clause-shown c = shown_line
