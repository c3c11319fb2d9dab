-- `read_arguments` meets its clause `bad`, by the lemmas of CommandLines.
use Rattle.std.proofs.Common.{sym, ap, ◌∙◌, Err}
use Rattle.mps_line.proofs.CommandLines.{no_sending, no_choosing, no_receiving}
use Rattle.mps_line.proofs.read_commands.read_arguments.Goals as goal

pub returns-in_err-to-in-Send-clause-bad : goal.returns-in_err-to-in-Send-clause-bad
returns-in_err-to-in-Send-clause-bad c = λ e command f takes h.
    no_sending _ _ (c.in_err-to-in-Send.ensures.bad (ap Err (sym (rw e at c.from_residual.ensures.1)))) command (f ∙ c.in-Send.is) h

pub returns-in_err-to-in-Choose-clause-bad : goal.returns-in_err-to-in-Choose-clause-bad
returns-in_err-to-in-Choose-clause-bad c = λ e command f takes h.
    no_choosing _ _ (c.in_err-to-in-Choose.ensures.bad (ap Err (sym (rw e at c.from_residual-in_err-to-in-Choose.ensures.1)))) command (f ∙ c.in-Choose.is) h

pub returns-in_err-from-in-Receive-clause-bad : goal.returns-in_err-from-in-Receive-clause-bad
returns-in_err-from-in-Receive-clause-bad c = λ e command f takes h.
    no_receiving _ _ (c.in_err-from-in-Receive.ensures.bad (ap Err (sym (rw e at c.from_residual-in_err-from-in-Receive.ensures.1)))) command (f ∙ c.in-Receive.is) h
