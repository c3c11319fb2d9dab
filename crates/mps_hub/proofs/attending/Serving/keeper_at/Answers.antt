-- `keeper_at` meets its clause.
use Rattle.std.proofs.Common.{None, ◌∙◌, arith}
use Rattle.mps_hub.proofs.attending.Serving.keeper_at.Goals as goal

pub returns-in-Some : goal.returns-in-Some
returns-in-Some g c = c.as_ref.ensures.value ∙ c.in-Some.ensures.lookup.4 (omega arith) None

pub returns-in-None : goal.returns-in-None
returns-in-None g c = c.in-None.ensures.lookup.4 (omega arith) None
