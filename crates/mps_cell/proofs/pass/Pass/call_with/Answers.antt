-- `Pass::call_with` meets its clause `call`, by the lemmas of Answering.
use Rattle.std.proofs.Common.{◌∙◌}
use Rattle.mps_cell.proofs.Answering.{called}
use Rattle.mps_cell.proofs.pass.Pass.call_with.Goals as goal

pub returns-clause-call : goal.returns-clause-call
returns-clause-call g c =
    let p = c.self.inside in
    let f = c.finish in
    called p.seat.table_id f.new.seat.table_id p.seat.me c.take.new.seat.me f.new.seat.me p.role c.args.command f.result p.numbers.newest c.args.self.now
    (f.ensures.cell ∙ c.take.ensures.cell) c.take.ensures.took c.self.invariant.role_is f.ensures.answer f.ensures.gave f.ensures.legal c.self.view_is
