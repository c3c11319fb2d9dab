-- `serve_file` meets its contract, by the lemmas of Causes.
use Rattle.mps_program.proofs.Causes.{server_told}
use Rattle.mps_program.proofs.serving.serve_file.Goals as goal

pub returns-clause-fault : goal.returns-clause-fault
returns-clause-fault g c = rw c.told.ensures.told (server_told c.args.verbose c.serve_from.result c.args.file _ _ _ c.serve_from.ensures.fault)
