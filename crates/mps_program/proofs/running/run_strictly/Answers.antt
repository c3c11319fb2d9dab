-- `run_strictly` meets its clause `refused`, by the lemmas of Passing.
use Rattle.mps_lines.specs.Cuts.{cut}
use Rattle.mps_program.specs.Heard.{first_refusal}
use Rattle.mps_program.proofs.Passing.{ends_strictly}
use Rattle.mps_program.proofs.running.run_strictly.Goals as goal

pub returns-clause-refused : goal.returns-clause-refused
returns-clause-refused g c passed h =
    rw (c.strict_status.ensures.ends) (rw (c.refused.ensures passed h) (ends_strictly (first_refusal (cut passed).lines) c.run_to_the_end-ran.result))
