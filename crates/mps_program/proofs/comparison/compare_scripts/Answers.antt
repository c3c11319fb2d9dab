-- `compare_scripts` meets its clause `fault`, by the lemmas of Comparing and Causes.
use Rattle.mps_program.specs.Faults.{IsScriptsFault}
use Rattle.mps_program.proofs.Causes.{told}
use Rattle.mps_program.proofs.Comparing.{scripts_fail}
use Rattle.mps_program.proofs.comparison.compare_scripts.Goals as goal

pub returns-in_err-line-clause-fault : goal.returns-in_err-line-clause-fault
returns-in_err-line-clause-fault g c =
    told _ (IsScriptsFault c.args.script.now c.args.other.now) _ c.from_residual-in_err-line.ensures.1
    (scripts_fail _ _ _ _ _ _ c.verdict_of-verdict.result c.say_why.result _ c.args.script.now c.args.other.now c.verdict_of-verdict.ensures.fault c.say_why.ensures.err c.in_err-line.ensures.err)
