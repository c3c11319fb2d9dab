-- `read_refusal` meets its clauses `none` and `read`, by the lemmas of ReplyLines.
use Rattle.std.proofs.Common.{rules}
use Rattle.std.specs.Prelude.{codes}
use Rattle.mps_line.proofs.ReplyLines.{no_step_after, no_refusal, lone_read, violation_read}
use Rattle.mps_line.proofs.read_refusals.read_refusal.Goals as goal

pub returns-in-None-clause-none : goal.returns-in-None-clause-none
returns-in-None-clause-none c = λ r h. no_step_after _ (codes "needed") _ r (search rules) c.in-Some.ensures.read c.in-None.ensures.none h

pub returns-in-None-read_step-clause-none : goal.returns-in-None-read_step-clause-none
returns-in-None-read_step-clause-none c = λ r h. no_step_after _ (codes "final") _ r (search rules) c.in-Some-after_word.ensures.read c.in-None-read_step.ensures.none h

pub returns-in-Some-read_violation-clause-read : goal.returns-in-Some-read_violation-clause-read
returns-in-Some-read_violation-clause-read c = violation_read _ _ c.in-Some-read_violation.ensures.read

pub returns-in-None-read_violation-clause-none : goal.returns-in-None-read_violation-clause-none
returns-in-None-read_violation-clause-none c = no_refusal _ _ c.in_default.ensures.none c.in_default-after_word.ensures.none c.in-None-read_violation.ensures.none c.lone_refusal.ensures.none

pub returns-in-None-read_violation-clause-read : goal.returns-in-None-read_violation-clause-read
returns-in-None-read_violation-clause-read c = lone_read _ _ c.lone_refusal.ensures.read c.lone_refusal.ensures.alone
