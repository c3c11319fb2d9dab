-- `take` meets its clause `next`, by the lemmas of Propagated and Steps.
use Rattle.mps_text.proofs.Propagated.{take_fails}
use Rattle.mps_text.proofs.Steps.{lexed_next}
use Rattle.mps_text.proofs.lexing.take.Goals as goal

pub returns-in_err-next-clause-next : goal.returns-in_err-next-clause-next
returns-in_err-next-clause-next c =
    take_fails c.from_residual.result c.in_err-next.field-0.0 c.args.cursor.now c.args.cursor.now c.from_residual.ensures.1 c.in_err-next.ensures

pub returns-clause-next : goal.returns-clause-next
returns-clause-next c = lexed_next c.args.cursor.now.rest.now _ c.in_ok-next.ensures
