-- `read_message` meets its clause `memory`.
use Rattle.std.proofs.Common.{◌∙◌, ap, Err}
use Rattle.mps_base.specs.declared.action.Message.TheVariants.{Value as Plain}
use Rattle.mps_base.specs.declared.value.Value.TheVariants as values
use Rattle.mps_line.proofs.read_replies.read_message.Goals as goal

pub returns-in-Err-Memory-clause-memory : goal.returns-in-Err-Memory-clause-memory
returns-in-Err-Memory-clause-memory c = λ _.
    let text = c.read-2.ensures.memory (c.in-Err-Memory.is ∙ ap Err c.in-Err-Memory.field-0-is) in (Plain (values.Text text.0), text.1)
