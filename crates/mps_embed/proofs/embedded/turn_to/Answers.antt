-- `turn_to` meets its clause `same`.
use native.Mathlib.Omega.{arith}
use Rattle.std.proofs.lemmas.List.{set-set, set-get_or}
use Rattle.mps_embed.proofs.embedded.turn_to.Goals as goal

pub returns-clause-same : goal.returns-clause-same
returns-clause-same c = grind (arith, set-set, set-get_or)
