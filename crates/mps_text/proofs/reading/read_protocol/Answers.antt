-- `read_protocol` meets its clauses `read`, `only` and `fault`.
use Rattle.std.proofs.Common.{arith}
use Rattle.mps_global.specs.Global.{plain}
use Rattle.mps_text.proofs.FirstFault.{first_fault}
use Rattle.mps_text.proofs.OneFault.{spelled_runs}
use Rattle.mps_text.proofs.OneTree.{one_protocol}
use Rattle.mps_text.proofs.Read.{taken}
use Rattle.mps_text.proofs.reading.read_protocol.Goals as goal

pub returns-in-Ok-clause-read : goal.returns-in-Ok-clause-read
returns-in-Ok-clause-read c =
    let p = c.in-Ok.protocol in
    let e = c.in-Ok.ensures in
    taken c.args.text.now p.roles.items (plain p.body) (omega arith) e.runs e.tokens e.names e.count e.spellable

pub returns-in-Ok-clause-only : goal.returns-in-Ok-clause-only
returns-in-Ok-clause-only c = λ roles tree limits spelled.
    let p = c.in-Ok.protocol in
    let e = c.in-Ok.ensures in
    let t = taken c.args.text.now p.roles.items (plain p.body) limits.short e.runs e.tokens e.names e.count e.spellable in
    one_protocol c.args.text.now p.roles.items roles (plain p.body) tree t.1 spelled

pub returns-in-Err-At-clause-only : goal.returns-in-Err-At-clause-only
returns-in-Err-At-clause-only c = λ roles tree limits spelled.
    let ok = spelled_runs c.args.text.now roles tree limits spelled in
    let fault = rw c.in-Err-At.field-0-is at c.in-Err-At.ensures.runs in
    absurd (cc (ok, fault))

pub returns-in-Err-At-clause-fault : goal.returns-in-Err-At-clause-fault
returns-in-Err-At-clause-fault c = grind (arith, first_fault)
