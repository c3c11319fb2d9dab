-- `read_command` meets its clauses `read`, `bad` and `memory`, by the lemmas of CommandLines.
use Rattle.std.proofs.Common.{arith}
use Rattle.mps_base.specs.declared.value.Value.TheVariants.{Text}
use Rattle.mps_command.specs.declared.command.Command.TheVariants.{Forward}
use Rattle.mps_command.specs.declared.command.Forward.TheVariants.{Send}
use Rattle.mps_line.proofs.CommandLines.{lone_read, no_command, no_verb, command_of, command_read}
use Rattle.mps_line.proofs.read_commands.read_command.Goals as goal

pub returns-in-Some-lone_command-clause-read : goal.returns-in-Some-lone_command-clause-read
returns-in-Some-lone_command-clause-read c = lone_read _ _ _ c.in-Some-lone_command.ensures.alone c.in-Some-lone_command.ensures.read

pub returns-in-None-clause-bad : goal.returns-in-None-clause-bad
returns-in-None-clause-bad c = λ e command h. no_verb _ _ c.in_default.ensures.none c.in-None.ensures.none command h

pub returns-clause-read : goal.returns-clause-read
returns-clause-read c = command_read _ _ _ _ _ c.in-Some.ensures.read c.read_arguments.ensures.verb c.read_arguments.ensures.some c.read_arguments.ensures.read

pub returns-clause-bad : goal.returns-clause-bad
returns-clause-bad c = λ e.
    no_command _ _ _ _ c.in-Some.ensures.read (c.read_arguments.ensures.bad e)

pub returns-clause-memory : goal.returns-clause-memory
returns-clause-memory c = λ e.
    let k = c.read_arguments.ensures.memory e in
    (k.0, k.1, command_of _ _ _ (Forward (Send k.0 (Text k.1))) (rw (c.read_arguments.ensures.send e) at c.in-Some.ensures.read) (omega arith) k.2)
