-- `host_file` meets its clause `fault`, by the lemmas of Causes.
use Rattle.mps_program.proofs.Causes.{host_told}
use Rattle.mps_program.proofs.hosting.host_file.Goals as goal

pub returns-clause-fault : goal.returns-clause-fault
returns-clause-fault g c = rw c.told.ensures.told (host_told c.args.verbose c.host_from.result c.args.file _ c.host_from.ensures.fault)
