-- `variable_of` meets its contract, by the lemmas of Names.
use Rattle.mps_text.proofs.Names.{variable_given}
use Rattle.mps_text.proofs.lexing.variable_of.Goals as goal

pub returns : goal.returns
returns c = variable_given c.args.bytes.now c.read.result c.read.ensures.some c.read.ensures.name
