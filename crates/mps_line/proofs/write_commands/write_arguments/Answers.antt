-- `write_arguments` meets its clause `ok`, by the lemmas of Writing.
use Rattle.mps_line.specs.Tokens.{Called, Number}
use Rattle.mps_line.proofs.Writing.{token_alone}
use Rattle.mps_line.proofs.write_commands.write_arguments.Goals as goal

pub returns-in-Undo-clause-ok : goal.returns-in-Undo-clause-ok
returns-in-Undo-clause-ok c = rw c.in-Undo.is (token_alone _ _ _ _ (Number c.in-Undo.id) c.write_step.ensures.ok)

pub returns-in-Rollback-clause-ok : goal.returns-in-Rollback-clause-ok
returns-in-Rollback-clause-ok c = rw c.in-Rollback.is (token_alone _ _ _ _ (Number c.in-Rollback.id) c.write_step-in-Rollback.ensures.ok)

pub returns-in-Back-clause-ok : goal.returns-in-Back-clause-ok
returns-in-Back-clause-ok c = rw c.in-Back.is (token_alone _ _ _ _ (Called c.in-Back.name) c.write_name.ensures.ok)

pub returns-in-News-clause-ok : goal.returns-in-News-clause-ok
returns-in-News-clause-ok c = rw c.in-News.is (token_alone _ _ _ _ (Number c.in-News.known) c.write_count.ensures.ok)
