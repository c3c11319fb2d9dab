-- `read_argument` meets its clauses `none` and `read`, by the lemmas of Splitting and CommandLines.
use Rattle.std.proofs.Common.{◌∙◌, refl}
use Rattle.std.proofs.lemmas.Bool.{false≢true}
use Rattle.mps_line.proofs.Splitting.{line_of_one}
use Rattle.mps_line.proofs.CommandLines.{no_picking, no_marking, no_undoing, no_rolling_back, no_going_back, no_asking, name_read}
use Rattle.mps_line.proofs.read_commands.read_argument.Goals as goal

pub returns-in_err-read_role-in-Pick-clause-none : goal.returns-in_err-read_role-in-Pick-clause-none
returns-in_err-read_role-in-Pick-clause-none c = rw c.from_residual.ensures (λ command f takes h. no_picking _ _ c.in_err-read_role-in-Pick.ensures.none command (f ∙ c.in-Pick.is) h)

pub returns-in_err-read-in-Mark-clause-none : goal.returns-in_err-read-in-Mark-clause-none
returns-in_err-read-in-Mark-clause-none c = rw c.from_residual-in_err-read-in-Mark.ensures (λ command f takes h. no_marking _ _ (λ k. false≢true (c.in_err-read-in-Mark.ensures.some.1 k)) command (f ∙ c.in-Mark.is) h)

pub returns-in_err-read_step-in-Undo-clause-none : goal.returns-in_err-read_step-in-Undo-clause-none
returns-in_err-read_step-in-Undo-clause-none c = rw c.from_residual-in_err-read_step-in-Undo.ensures (λ command f takes h. no_undoing _ _ c.in_err-read_step-in-Undo.ensures.none command (f ∙ c.in-Undo.is) h)

pub returns-in_err-read_step-in-Rollback-clause-none : goal.returns-in_err-read_step-in-Rollback-clause-none
returns-in_err-read_step-in-Rollback-clause-none c = rw c.from_residual-in_err-read_step-in-Rollback.ensures (λ command f takes h. no_rolling_back _ _ c.in_err-read_step-in-Rollback.ensures.none command (f ∙ c.in-Rollback.is) h)

pub returns-in_err-read-in-Back-clause-none : goal.returns-in_err-read-in-Back-clause-none
returns-in_err-read-in-Back-clause-none c = rw c.from_residual-in_err-read-in-Back.ensures (λ command f takes h. no_going_back _ _ (λ k. false≢true (c.in_err-read-in-Back.ensures.some.1 k)) command (f ∙ c.in-Back.is) h)

pub returns-in_err-read_count-in-News-clause-none : goal.returns-in_err-read_count-in-News-clause-none
returns-in_err-read_count-in-News-clause-none c = rw c.from_residual-in_err-read_count-in-News.ensures (λ command f takes h. no_asking _ _ c.in_err-read_count-in-News.ensures.none command (f ∙ c.in-News.is) h)

pub returns-in_ok-read_role-in-Pick-clause-read : goal.returns-in_ok-read_role-in-Pick-clause-read
returns-in_ok-read_role-in-Pick-clause-read c = line_of_one _ _ _ c.in_ok-read_role-in-Pick.ensures.read

pub returns-in_ok-read-in-Mark-clause-read : goal.returns-in_ok-read-in-Mark-clause-read
returns-in_ok-read-in-Mark-clause-read c = line_of_one _ _ _ (name_read _ _ (c.in_ok-read-in-Mark.ensures.some.0 refl) c.in_ok-read-in-Mark.ensures.name)

pub returns-in_ok-read_step-in-Undo-clause-read : goal.returns-in_ok-read_step-in-Undo-clause-read
returns-in_ok-read_step-in-Undo-clause-read c = line_of_one _ _ _ c.in_ok-read_step-in-Undo.ensures.read

pub returns-in_ok-read_step-in-Rollback-clause-read : goal.returns-in_ok-read_step-in-Rollback-clause-read
returns-in_ok-read_step-in-Rollback-clause-read c = line_of_one _ _ _ c.in_ok-read_step-in-Rollback.ensures.read

pub returns-in_ok-read-in-Back-clause-read : goal.returns-in_ok-read-in-Back-clause-read
returns-in_ok-read-in-Back-clause-read c = line_of_one _ _ _ (name_read _ _ (c.in_ok-read-in-Back.ensures.some.0 refl) c.in_ok-read-in-Back.ensures.name)

pub returns-in_ok-read_count-in-News-clause-read : goal.returns-in_ok-read_count-in-News-clause-read
returns-in_ok-read_count-in-News-clause-read c = line_of_one _ _ _ c.in_ok-read_count-in-News.ensures.read
