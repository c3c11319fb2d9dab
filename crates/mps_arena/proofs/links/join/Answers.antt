-- `join` meets its clause `nodes`, by the lemmas of Updating.
use Rattle.std.proofs.Common.{arith}
use Rattle.mps_arena.proofs.Updating.{updated, joined_is}
use Rattle.mps_arena.proofs.links.join.Goals as goal

pub returns-clause-nodes : goal.returns-clause-nodes
returns-clause-nodes c k = grind (arith, updated, joined_is)
