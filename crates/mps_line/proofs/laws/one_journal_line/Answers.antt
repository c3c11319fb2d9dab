-- `one_journal_line` meets its clauses `role`, `number`, `command`, `spelling`, `no_line_feed` and `script`, by the lemmas of JournalLines.
use Rattle.mps_line.proofs.JournalLines.{same_role, same_number, same_command, one_spelling_of, no_line_feed, script_line}
use Rattle.mps_line.proofs.laws.one_journal_line.Goals as goal

pub returns-clause-role : goal.returns-clause-role
returns-clause-role c = same_role

pub returns-clause-number : goal.returns-clause-number
returns-clause-number c = same_number c.one_numbered.ensures.number

pub returns-clause-command : goal.returns-clause-command
returns-clause-command c = same_command c.one_numbered.ensures.command

pub returns-clause-spelling : goal.returns-clause-spelling
returns-clause-spelling c = one_spelling_of c.one_numbered.ensures.spelling

pub returns-clause-no_line_feed : goal.returns-clause-no_line_feed
returns-clause-no_line_feed c = no_line_feed c.one_numbered.ensures.shown

pub returns-clause-script : goal.returns-clause-script
returns-clause-script c = script_line
