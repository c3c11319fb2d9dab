-- In each turn of the loop of `Watched::look_on` the source is as it was.
use Rattle.std.proofs.Common.{◌≡◌}
use Rattle.mps_program.specs.Watched.{source_of}
use Rattle.mps_program.proofs.watched.Watched.look_on.Given as goal

abbrev pub invariant-loop : goal.invariant-loop
invariant-loop g l = source_of l.self ≡ source_of l.fn.self
