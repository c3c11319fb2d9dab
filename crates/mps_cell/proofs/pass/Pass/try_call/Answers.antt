-- `Pass::try_call` meets its clause `call`, by the lemmas of Answering.
use Rattle.std.proofs.Common.{◌∙◌}
use Rattle.mps_cell.specs.Private.Rule.{Took}
use Rattle.mps_cell.proofs.Answering.{called}
use Rattle.mps_cell.proofs.pass.Pass.try_call.Goals as goal

pub returns-clause-call : goal.returns-clause-call
returns-clause-call c =
    let p = c.self.inside in
    let f = c.finish in
    let took : Took p.seat.me c.try_take-found.new.seat.me = rw c.if-not-won.false at c.try_take-found.ensures.tried in
    called p.seat.table_id f.new.seat.table_id p.seat.me c.try_take-found.new.seat.me f.new.seat.me p.role c.args.command f.result p.numbers.newest c.args.self.now
    (f.ensures.cell ∙ c.try_take-found.ensures.cell) took c.self.invariant.role_is f.ensures.answer f.ensures.gave f.ensures.legal c.self.view_is
