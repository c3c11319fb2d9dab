-- `read_more` meets its clause `fault`, by the lemmas of Causes.
use Rattle.mps_program.specs.Faults.{IsReadFault}
use Rattle.mps_program.proofs.Causes.{told}
use Rattle.mps_program.proofs.files.read_more.Goals as goal

pub returns-in_default-clause-fault : goal.returns-in_default-clause-fault
returns-in_default-clause-fault g c = c.in_default.ensures.failures

pub returns-in_err-extend_from_slice-clause-fault : goal.returns-in_err-extend_from_slice-clause-fault
returns-in_err-extend_from_slice-clause-fault g c = told _ (IsReadFault (g.R.Source.failed_calls c.args.reader.now) (g.R.Source.failed_calls c.read.new.self)) _ c.from_residual.ensures.1 c.in-Ok.ensures.failures
