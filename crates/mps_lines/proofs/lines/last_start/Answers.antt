-- `last_start` meets its clause `rest`, by the lemmas of Cutting.
use Rattle.std.proofs.Common.{arith, length-drop}
use Rattle.std.proofs.lemmas.Bool.{eqb-true}
use Rattle.std.proofs.lemmas.List.{get_or-drop}
use Rattle.mps_lines.proofs.Cutting.{cut_rest, no_break_places, rest_behind}
use Rattle.mps_lines.proofs.lines.last_start.Goals as goal

pub returns-in-Some-clause-rest : goal.returns-in-Some-clause-rest
returns-in-Some-clause-rest c = grind (arith, rest_behind, eqb-true, no_break_places, length-drop, get_or-drop)

pub returns-in-None-clause-rest : goal.returns-in-None-clause-rest
returns-in-None-clause-rest c = grind (arith, cut_rest, no_break_places)
