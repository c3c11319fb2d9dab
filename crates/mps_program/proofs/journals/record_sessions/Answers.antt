-- `record_sessions` meets its clause `refused`: none was refused before, and then one after the other.
use Rattle.std.proofs.Common.{arith, ap, length}
use Rattle.mps_program.proofs.Causes.{refused_on}
use Rattle.mps_program.proofs.journals.record_sessions.Goals as goal

pub returns-clause-refused : goal.returns-clause-refused
returns-clause-refused g c =
    refused_on c.args.first _ c.args.sessions _ _ _ _ c.in_ok-rooms.ensures.first c.in_ok-rooms.ensures.sessions c.in_ok-rooms.ensures.refused c.keep_all.ensures.refused
    (λ k d less. absurd (omega (arith, less, ap length c.new.ensures.items)))
