-- `read_numbered` meets its clauses `bad`, `memory` and `read`, by the lemmas of NumberedLines.
use Rattle.std.proofs.Common.{refl, sym, ap, ◌∙◌, Err, Some}
use Rattle.std.proofs.lemmas.Bool.{false≢true}
use Rattle.mps_base.specs.declared.value.Value.TheVariants.{Text}
use Rattle.mps_command.specs.declared.command.Command.TheVariants.{Forward}
use Rattle.mps_command.specs.declared.command.Forward.TheVariants.{Send}
use Rattle.mps_line.proofs.NumberedLines.{none_alone, command_numbered, none_numbered, may_as_well}
use Rattle.mps_line.proofs.read_conversations.read_numbered.Goals as goal

pub returns-in_err-command-clause-bad : goal.returns-in_err-command-clause-bad
returns-in_err-command-clause-bad c = λ e number command h.
    none_alone _ _ c.in_default.ensures.none (c.in_err-command.ensures.bad (ap Err (sym (rw e at c.from_residual.ensures.1)))) number command h

pub returns-in_err-command-2-clause-bad : goal.returns-in_err-command-2-clause-bad
returns-in_err-command-2-clause-bad c = λ e number command h.
    none_numbered _ _ _ _ c.in-Some.ensures.read (λ d may. c.in_err-command-2.ensures.bad (ap Err (sym (rw e at c.from_residual-in_err-command-2.ensures.1))) d) number command h

pub returns-in_err-command-2-clause-memory : goal.returns-in_err-command-2-clause-memory
returns-in_err-command-2-clause-memory c = λ e.
    let k = c.in_err-command-2.ensures.memory (ap Err (sym (rw e at c.from_residual-in_err-command-2.ensures.1))) in
    (Some c.in-Some.number, k.0, k.1, command_numbered _ _ _ _ (Forward (Send k.0 (Text k.1))) c.in-Some.ensures.read refl k.2)

pub returns-then-not-asks_for_change-clause-bad : goal.returns-then-not-asks_for_change-clause-bad
returns-then-not-asks_for_change-clause-bad c = λ e number command h.
    none_numbered _ _ _ _ c.in-Some.ensures.read (λ d may k. false≢true (sym c.if-not-asks_for_change.true ∙ c.asks_for_change.ensures.1 (may_as_well _ _ c.in_ok-command-2.command d c.in_ok-command-2.ensures.read k may))) number command h

pub returns-clause-read : goal.returns-clause-read
returns-clause-read c =
    command_numbered _ _ _ _ _ c.in-Some.ensures.read (c.asks_for_change.ensures.0 c.if-not-asks_for_change.false) c.in_ok-command-2.ensures.read
