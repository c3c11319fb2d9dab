-- `read_script_line` meets its clauses `bad`, `memory` and `read`, by the lemmas of Splitting and CommandLines.
use Rattle.std.proofs.Common.{sym, ap, Err}
use Rattle.mps_line.proofs.Splitting.{joined}
use Rattle.mps_line.proofs.CommandLines.{none_after, no_role_in_front}
use Rattle.mps_line.proofs.read_commands.read_script_line.Goals as goal

pub returns-in_default-clause-bad : goal.returns-in_default-clause-bad
returns-in_default-clause-bad c = λ e role command h. no_role_in_front _ _ _ _ c.in_default.ensures.none role h

pub returns-in_err-command-clause-bad : goal.returns-in_err-command-clause-bad
returns-in_err-command-clause-bad c = λ e role command h.
    none_after _ _ _ _ _ c.in-Some.ensures.rest (c.in_err-command.ensures.bad (ap Err (sym (rw e at c.from_residual.ensures.1))) command) role h

pub returns-in_err-command-clause-memory : goal.returns-in_err-command-clause-memory
returns-in_err-command-clause-memory c = λ e.
    let k = c.in_err-command.ensures.memory (ap Err (sym (rw e at c.from_residual.ensures.1))) in
    (c.in-Some.parts.0, k.0, k.1, joined _ _ _ _ _ _ c.in-Some.ensures.read k.2)

pub returns-clause-read : goal.returns-clause-read
returns-clause-read c = joined _ _ _ _ _ _ c.in-Some.ensures.read c.in_ok-command.ensures.read
