-- `run_on_copy` meets its clause `fault`, by the lemmas of Causes.
use Rattle.std.proofs.Common.{refl}
use Rattle.mps_wire.proofs.Outcomes.{starts_starved}
use Rattle.mps_wire.specs.declared.script.ReplayFault.TheVariants.{Memory}
use Rattle.mps_program.specs.Compared.{HasStopped, unheard}
use Rattle.mps_program.proofs.Causes.{told}
use Rattle.mps_program.proofs.comparison.run_on_copy.Goals as goal

-- nothing was read yet
pub returns-in_err-names-clause-fault : goal.returns-in_err-names-clause-fault
returns-in_err-names-clause-fault g c =
    told _ (HasStopped c.args.roles.now c.args.session.types (unheard g.R.Source c.args.reader.now) (unheard g.R.Source c.args.reader.now)) _ c.from_residual.ensures.1
    (Memory, refl, starts_starved _ _ _)
